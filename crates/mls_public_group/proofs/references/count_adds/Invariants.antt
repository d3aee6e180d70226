use Rattle.std.proofs.Common.{◌≡◌, ◌+◌, ◌≤◌, length, drop}
use Rattle.mls_model.specs.Proposals.{adds}
use Rattle.mls_public_group.proofs.references.count_adds.Given as goal

abbrev pub invariant-loop-one : goal.invariant-loop-one
invariant-loop-one l = (l.count + length (adds (drop l.one-index l.used)) ≡ length (adds l.used)) × (l.count ≤ l.one-index)
