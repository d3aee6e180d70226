use Rattle.std.proofs.Common.{[], Some, ◌∙◌, arith}
use Rattle.mls_tree_cells.proofs.OpenLaws.{chunk_in, top_in, row_long, hash_of_row, keep_row, keep_row_parts, keep_top, keep_top_parts}
use Rattle.mls_tree_cells.proofs.parts.Parts.keep_hash.Goals as goal

pub index_mut-requires : goal.index_mut-requires
index_mut-requires c =
    let ok = c.self.inside.chunks.ok.0 in
    let lt = chunk_in c.self.inside.chunks.items c.self.inside.tops c.args.self.now c.self.view_is c.self.invariant c.args.x c.requires.within c.if-offset-lt-TOP.true in
    omega arith

pub keep_hash-requires-clause-within : goal.keep_hash-requires-clause-within
keep_hash-requires-clause-within c = row_long c.self.inside.chunks.items c.self.inside.tops c.args.self.now c.self.view_is c.self.invariant c.args.x c.requires.within c.index_mut.result.now c.if-offset-lt-TOP.true c.index_mut.ensures.value

pub keep_hash-requires-clause-cold : goal.keep_hash-requires-clause-cold
keep_hash-requires-clause-cold c =
    hash_of_row c.self.inside.chunks.items c.self.inside.tops c.args.self.now c.self.view_is c.self.invariant c.args.x c.requires.within c.index_mut.result.now c.if-offset-lt-TOP.true c.index_mut.ensures.value (Some []) ∙ c.requires.cold

pub keep_hash-requires-else-offset-lt-TOP : goal.keep_hash-requires-else-offset-lt-TOP
keep_hash-requires-else-offset-lt-TOP c = top_in c.self.inside.chunks.items c.self.inside.tops c.args.self.now c.self.view_is c.self.invariant c.args.x c.requires.within c.if-offset-lt-TOP.false

pub invariant_of-self : goal.invariant_of-self
invariant_of-self c =
    keep_row_parts c.self.inside.chunks.items c.self.inside.tops c.args.self.now c.self.view_is c.self.invariant c.args.x c.requires.within c.index_mut.result.now c.if-offset-lt-TOP.true c.index_mut.ensures.value c.keep_hash.new.self (Some c.args.hash) c.keep_hash.ensures

pub invariant_of-self-else-offset-lt-TOP : goal.invariant_of-self-else-offset-lt-TOP
invariant_of-self-else-offset-lt-TOP c =
    keep_top_parts c.self.inside.chunks.items c.self.inside.tops c.args.self.now c.self.view_is c.self.invariant c.args.x c.requires.within c.if-offset-lt-TOP.false c.keep_hash-else-offset-lt-TOP.new.self (Some c.args.hash) c.keep_hash-else-offset-lt-TOP.ensures

pub returns-then-offset-lt-TOP : goal.returns-then-offset-lt-TOP
returns-then-offset-lt-TOP c =
    keep_row c.self.inside.chunks.items c.self.inside.tops c.args.self.now c.self.view_is c.self.invariant c.args.x c.requires.within c.index_mut.result.now c.if-offset-lt-TOP.true c.index_mut.ensures.value c.keep_hash.new.self (Some c.args.hash) c.keep_hash.ensures

pub returns-else-offset-lt-TOP : goal.returns-else-offset-lt-TOP
returns-else-offset-lt-TOP c =
    keep_top c.self.inside.chunks.items c.self.inside.tops c.args.self.now c.self.view_is c.self.invariant c.args.x c.requires.within c.if-offset-lt-TOP.false c.keep_hash-else-offset-lt-TOP.new.self (Some c.args.hash) c.keep_hash-else-offset-lt-TOP.ensures
