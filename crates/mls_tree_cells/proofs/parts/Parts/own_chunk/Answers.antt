use Rattle.std.proofs.Common.{◌/◌, List, set, sym, ◌∙◌, ap, subst, arith}
use Rattle.mls_tree_cells.specs.Cells.{CellList}
use Rattle.mls_tree_cells.specs.Parts.{AreParts, PartList, StaysOpen, all_cells, shares_of}
use Rattle.mls_tree_cells.proofs.PartLaws.{rows_stay, own_here, stays_open}
use Rattle.mls_tree_cells.proofs.OpenLaws.{chunk_in}
use Rattle.mls_tree_cells.proofs.parts.Parts.own_chunk.Goals as goal

pub index_mut-requires : goal.index_mut-requires
index_mut-requires c =
    let ok = c.self.inside.chunks.ok.0 in
    let lt = chunk_in c.self.inside.chunks.items c.self.inside.tops c.args.self.now c.self.view_is c.self.invariant c.args.x c.requires c.if-x-lt-TOP.true in
    omega arith

pub invariant_of-self : goal.invariant_of-self
invariant_of-self c =
    subst (λ (rs : List CellList). AreParts rs c.self.inside.tops) (sym (rows_stay c.self.inside.chunks.items (c.args.x / 256) c.index_mut.result.now c.make_own.new.self (chunk_in c.self.inside.chunks.items c.self.inside.tops c.args.self.now c.self.view_is c.self.invariant c.args.x c.requires c.if-x-lt-TOP.true) c.index_mut.ensures.value c.make_own.ensures.row)) c.self.invariant

pub invariant_of-self-in_err-make_own : goal.invariant_of-self-in_err-make_own
invariant_of-self-in_err-make_own c =
    subst (λ (rs : List CellList). AreParts rs c.self.inside.tops) (sym (rows_stay c.self.inside.chunks.items (c.args.x / 256) c.index_mut.result.now c.make_own.new.self (chunk_in c.self.inside.chunks.items c.self.inside.tops c.args.self.now c.self.view_is c.self.invariant c.args.x c.requires c.if-x-lt-TOP.true) c.index_mut.ensures.value c.make_own.ensures.row)) c.self.invariant

pub returns-in_ok-make_own-clause-cells : goal.returns-in_ok-make_own-clause-cells
returns-in_ok-make_own-clause-cells c =
    ap (λ (rs : List CellList). all_cells rs c.self.inside.tops) (rows_stay c.self.inside.chunks.items (c.args.x / 256) c.index_mut.result.now c.make_own.new.self (chunk_in c.self.inside.chunks.items c.self.inside.tops c.args.self.now c.self.view_is c.self.invariant c.args.x c.requires c.if-x-lt-TOP.true) c.index_mut.ensures.value c.make_own.ensures.row)
    ∙ ap (λ (p : PartList). p.cells) c.self.view_is

pub returns-in_err-make_own-clause-cells : goal.returns-in_err-make_own-clause-cells
returns-in_err-make_own-clause-cells c =
    ap (λ (rs : List CellList). all_cells rs c.self.inside.tops) (rows_stay c.self.inside.chunks.items (c.args.x / 256) c.index_mut.result.now c.make_own.new.self (chunk_in c.self.inside.chunks.items c.self.inside.tops c.args.self.now c.self.view_is c.self.invariant c.args.x c.requires c.if-x-lt-TOP.true) c.index_mut.ensures.value c.make_own.ensures.row)
    ∙ ap (λ (p : PartList). p.cells) c.self.view_is

pub returns-in_ok-make_own-clause-own : goal.returns-in_ok-make_own-clause-own
returns-in_ok-make_own-clause-own c = λ low.
    own_here c.self.inside.chunks.items (c.args.x / 256) c.make_own.new.self (chunk_in c.self.inside.chunks.items c.self.inside.tops c.args.self.now c.self.view_is c.self.invariant c.args.x c.requires c.if-x-lt-TOP.true) c.in_ok-make_own.ensures.own

pub returns-in_ok-make_own-clause-others : goal.returns-in_ok-make_own-clause-others
returns-in_ok-make_own-clause-others c =
    subst (λ (p : PartList). StaysOpen p.shares (shares_of (set c.self.inside.chunks.items (c.args.x / 256) c.make_own.new.self))) c.self.view_is
    (stays_open c.self.inside.chunks.items (c.args.x / 256) c.make_own.new.self (chunk_in c.self.inside.chunks.items c.self.inside.tops c.args.self.now c.self.view_is c.self.invariant c.args.x c.requires c.if-x-lt-TOP.true) c.in_ok-make_own.ensures.own)

pub returns-else-x-lt-TOP-clause-own : goal.returns-else-x-lt-TOP-clause-own
returns-else-x-lt-TOP-clause-own c = λ low. let high = c.if-x-lt-TOP.false in absurd (omega arith)

pub returns-else-x-lt-TOP-clause-others : goal.returns-else-x-lt-TOP-clause-others
returns-else-x-lt-TOP-clause-others c = λ y own. own
