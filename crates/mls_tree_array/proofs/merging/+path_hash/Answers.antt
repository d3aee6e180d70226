use Rattle.std.proofs.Common.{sym, reverse}
use Rattle.mls_tree_model.proofs.Equations.{path_hash_leaf}
use Rattle.mls_tree_array.specs.Merging.{hash_bytes}
use Rattle.mls_tree_array.proofs.StepLaws.{hash_step}
use Rattle.mls_tree_array.proofs.merging.+path_hash.Goals as goal

pub returns-in-None : goal.returns-in-None
returns-in-None t c = rw c.in-None.ensures.1 (sym (path_hash_leaf _ _ _ _ _))

pub returns-in-Some : goal.returns-in-Some
returns-in-Some t c =
    rw (hash_step c.args.tree.now c.args.leaf c.in-Some.step.side _ c.in-Some.step.other c.in-Some.ensures (reverse c.args.keys.now) (hash_bytes c.args.hash), ← c.hand_down-below.ensures.keys, ← c.hand_down-below.ensures.hash) c.path_hash.ensures
