use Rattle.std.proofs.Common.{sym, subst}
use Rattle.mls_theorems.specs.Reachable.{IsReachable}
use Rattle.mls_theorems.proofs.Reachable.{empty_reachable}
use Rattle.mls_world.proofs.world.World.new.Goals as goal

pub invariant_of-result : goal.invariant_of-result
invariant_of-result g c = subst (IsReachable g.S.Suite.crypto) (sym c.new.ensures) (empty_reachable g.S.Suite.crypto)
