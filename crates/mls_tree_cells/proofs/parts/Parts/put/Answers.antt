use Rattle.std.proofs.Common.{◌/◌, sym, ◌∙◌, ap, arith}
use Rattle.mls_tree_cells.specs.Parts.{PartList}
use Rattle.mls_tree_cells.proofs.PartLaws.{shares_stay}
use Rattle.mls_tree_cells.proofs.OpenLaws.{chunk_in, top_in, row_long, own_if_open, put_row, put_row_parts, put_top, put_top_parts}
use Rattle.mls_tree_cells.proofs.parts.Parts.put.Goals as goal

pub index_mut-requires : goal.index_mut-requires
index_mut-requires c =
    let ok = c.self.inside.chunks.ok.0 in
    let lt = chunk_in c.self.inside.chunks.items c.self.inside.tops c.args.self.now c.self.view_is c.self.invariant c.args.x c.requires.within c.if-offset-lt-TOP.true in
    omega arith

pub put-requires-clause-own : goal.put-requires-clause-own
put-requires-clause-own c = own_if_open c.self.inside.chunks.items c.self.inside.tops c.args.self.now c.self.view_is c.self.invariant c.args.x c.requires.within c.index_mut.result.now c.if-offset-lt-TOP.true c.index_mut.ensures.value c.requires.own

pub put-requires-clause-within : goal.put-requires-clause-within
put-requires-clause-within c = row_long c.self.inside.chunks.items c.self.inside.tops c.args.self.now c.self.view_is c.self.invariant c.args.x c.requires.within c.index_mut.result.now c.if-offset-lt-TOP.true c.index_mut.ensures.value

pub put-requires-else-offset-lt-TOP : goal.put-requires-else-offset-lt-TOP
put-requires-else-offset-lt-TOP c = top_in c.self.inside.chunks.items c.self.inside.tops c.args.self.now c.self.view_is c.self.invariant c.args.x c.requires.within c.if-offset-lt-TOP.false

pub invariant_of-self : goal.invariant_of-self
invariant_of-self c =
    put_row_parts c.self.inside.chunks.items c.self.inside.tops c.args.self.now c.self.view_is c.self.invariant c.args.x c.requires.within c.index_mut.result.now c.if-offset-lt-TOP.true c.index_mut.ensures.value c.put.new.self c.args.slot c.put.ensures.row

pub invariant_of-self-else-offset-lt-TOP : goal.invariant_of-self-else-offset-lt-TOP
invariant_of-self-else-offset-lt-TOP c =
    put_top_parts c.self.inside.chunks.items c.self.inside.tops c.args.self.now c.self.view_is c.self.invariant c.args.x c.requires.within c.if-offset-lt-TOP.false c.put-else-offset-lt-TOP.new.self c.args.slot c.put-else-offset-lt-TOP.ensures

pub returns-then-offset-lt-TOP-clause-cells : goal.returns-then-offset-lt-TOP-clause-cells
returns-then-offset-lt-TOP-clause-cells c =
    put_row c.self.inside.chunks.items c.self.inside.tops c.args.self.now c.self.view_is c.self.invariant c.args.x c.requires.within c.index_mut.result.now c.if-offset-lt-TOP.true c.index_mut.ensures.value c.put.new.self c.args.slot c.put.ensures.row

pub returns-then-offset-lt-TOP-clause-shares : goal.returns-then-offset-lt-TOP-clause-shares
returns-then-offset-lt-TOP-clause-shares c =
    shares_stay c.self.inside.chunks.items (c.args.x / 256) c.index_mut.result.now c.put.new.self (chunk_in c.self.inside.chunks.items c.self.inside.tops c.args.self.now c.self.view_is c.self.invariant c.args.x c.requires.within c.if-offset-lt-TOP.true) c.index_mut.ensures.value
    (c.put.ensures.own ∙ sym (own_if_open c.self.inside.chunks.items c.self.inside.tops c.args.self.now c.self.view_is c.self.invariant c.args.x c.requires.within c.index_mut.result.now c.if-offset-lt-TOP.true c.index_mut.ensures.value c.requires.own))
    ∙ ap (λ (p : PartList). p.shares) c.self.view_is

pub returns-else-offset-lt-TOP-clause-cells : goal.returns-else-offset-lt-TOP-clause-cells
returns-else-offset-lt-TOP-clause-cells c =
    put_top c.self.inside.chunks.items c.self.inside.tops c.args.self.now c.self.view_is c.self.invariant c.args.x c.requires.within c.if-offset-lt-TOP.false c.put-else-offset-lt-TOP.new.self c.args.slot c.put-else-offset-lt-TOP.ensures
