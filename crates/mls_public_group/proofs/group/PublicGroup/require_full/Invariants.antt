use Rattle.std.proofs.Common.{◌≡◌, drop}
use Rattle.mls_model.specs.Proposals.{full_checks}
use Rattle.mls_public_group.proofs.group.PublicGroup.require_full.Given as goal

abbrev pub invariant-loop-one : goal.invariant-loop-one
invariant-loop-one g l = full_checks g.S.Suite.crypto l.self (drop l.one-index l.used) ≡ full_checks g.S.Suite.crypto l.self l.used
