use Rattle.std.proofs.Common.{◌∙◌, sym, arith}
use Rattle.mls_tree_array.specs.Merging.{hash_bytes}
use Rattle.mls_tree_array.proofs.Merged.{below_last}
use Rattle.mls_tree_array.proofs.merging.hand_down.Goals as goal

pub returns-in-len1-up-clause-hash : goal.returns-in-len1-up-clause-hash
returns-in-len1-up-clause-hash c =
    rw (below_last c.args.side.now.first c.args.side.now.term c.args.keys.now c.key-item.result (hash_bytes c.args.above) (sym (c.is_reached.ensures c.args.side.now.first) ∙ c.if-not-is_reached.false) (omega arith) c.key-item.is, ← c.as_slice.ensures, ← c.bytes_of.ensures, ← c.hash.ensures)
    c.sibling_hash-below.ensures
