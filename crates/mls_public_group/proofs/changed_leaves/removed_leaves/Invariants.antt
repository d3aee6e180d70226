use Rattle.std.proofs.Common.{◌≡◌, ◌++◌, drop}
use Rattle.mls_model.specs.Proposals.{removed_leaves}
use Rattle.mls_public_group.proofs.changed_leaves.removed_leaves.Given as goal

abbrev pub invariant-loop-one : goal.invariant-loop-one
invariant-loop-one l = l.leaves.items ++ removed_leaves (drop l.one-index l.used) ≡ removed_leaves l.used
