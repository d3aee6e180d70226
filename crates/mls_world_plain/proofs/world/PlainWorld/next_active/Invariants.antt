use Rattle.std.proofs.Common.{◌≡◌}
use Rattle.mls_world_plain.specs.ActiveMembers.{active_behind}
use Rattle.mls_world_plain.proofs.world.PlainWorld.next_active.Given as goal

abbrev pub invariant-loop-number : goal.invariant-loop-number
invariant-loop-number g l = active_behind l.self l.from ≡ active_behind l.self l.number
