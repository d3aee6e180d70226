use Rattle.std.proofs.Common.{◌≡◌, ◌++◌, drop}
use Rattle.mls_model.specs.Proposals.{updated_leaves}
use Rattle.mls_public_group.proofs.changed_leaves.updated_leaves.Given as goal

abbrev pub invariant-loop-one : goal.invariant-loop-one
invariant-loop-one l = l.leaves.items ++ updated_leaves (drop l.one-index l.used) ≡ updated_leaves l.used
