use Rattle.std.proofs.Common.{◌∙◌, sym}
use Rattle.mls_tree_array.specs.Merging.{hash_bytes}
use Rattle.mls_tree_array.proofs.Merged.{below_pushed}
use Rattle.mls_tree_array.proofs.merging.add_parent.Goals as goal

pub returns-in_ok-push-in-Some-clause-hash : goal.returns-in_ok-push-in-Some-clause-hash
returns-in_ok-push-in-Some-clause-hash c =
    rw (below_pushed c.args.side.now.first c.args.side.now.term c.args.keys.now.items c.pop.new.self.items c.in-Some.key (hash_bytes c.args.above) (sym (c.is_reached.ensures c.args.side.now.first) ∙ c.if-not-is_reached.false) c.in-Some.ensures.items, ← c.as_slice.ensures, ← c.bytes_of.ensures, ← c.hash.ensures)
    c.sibling_hash-below.ensures
