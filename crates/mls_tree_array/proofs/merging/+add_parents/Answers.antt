use Rattle.std.proofs.Common.{sym, reverse, append-nil, append_assoc}
use Rattle.mls_tree_model.proofs.Equations.{path_hash_leaf}
use Rattle.mls_tree_array.specs.Merging.{hash_bytes}
use Rattle.mls_tree_array.specs.PathParents.{IsPathHash}
use Rattle.mls_tree_array.proofs.Merged.{parents_leaf}
use Rattle.mls_tree_array.proofs.StepLaws.{hash_step, parents_step}
use Rattle.mls_tree_array.proofs.merging.+add_parents.Goals as goal

pub returns-in-None-clause-parents : goal.returns-in-None-clause-parents
returns-in-None-clause-parents t c = rw (c.in-None.ensures.1, parents_leaf) (sym (append-nil _))

pub returns-in-None-clause-hash : goal.returns-in-None-clause-hash
returns-in-None-clause-hash t c = rw c.in-None.ensures.1 (sym (path_hash_leaf _ _ _ _ _))

pub returns-in_ok-below-in-Some-clause-parents : goal.returns-in_ok-below-in-Some-clause-parents
returns-in_ok-below-in-Some-clause-parents t c =
    rw (parents_step c.args.tree.now c.args.leaf c.in-Some.step.side _ c.in-Some.step.other c.in-Some.ensures (reverse c.args.keys.now.items) (hash_bytes c.args.hash))
    (rw (c.in_ok-below-in-Some.ensures.parent, c.in_ok-below-in-Some.ensures.keys, c.in_ok-below-in-Some.ensures.hash, append_assoc) at c.add_parents.ensures.parents)

pub returns-in_ok-below-in-Some-clause-hash : goal.returns-in_ok-below-in-Some-clause-hash
returns-in_ok-below-in-Some-clause-hash t c =
    rw (hash_step c.args.tree.now c.args.leaf c.in-Some.step.side _ c.in-Some.step.other c.in-Some.ensures (reverse c.args.keys.now.items) (hash_bytes c.args.hash), IsPathHash, ← c.in_ok-below-in-Some.ensures.keys, ← c.in_ok-below-in-Some.ensures.hash) c.add_parents.ensures.hash
