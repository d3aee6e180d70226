use Rattle.std.proofs.Common.{◌≡◌, ◌++◌, drop}
use Rattle.std.specs.Prelude.{map}
use Rattle.mls_model.specs.Proposals.{adds, package_reference}
use Rattle.mls_public_group.proofs.references.references.Given as goal

abbrev pub invariant-loop-one : goal.invariant-loop-one
invariant-loop-one l = l.references.items ++ map package_reference (adds (drop l.one-index l.used)) ≡ map package_reference (adds l.used)
