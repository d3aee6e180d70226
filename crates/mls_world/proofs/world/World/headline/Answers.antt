use Rattle.std.proofs.Common.{◌≡◌, subst}
use Rattle.mls_theorems.specs.Reachable.{IsReachable}
use Rattle.mls_theorems.proofs.Reachable.{headline_of_reachable}
use Rattle.mls_world.proofs.world.World.headline.Goals as goal

pub returns : goal.returns
returns g c =
    let same : c.self.inside.world ≡ c.args.self.now = cc in
    headline_of_reachable g.S.Suite.crypto g.met.S.Suite.lawful c.args.self.now (subst (IsReachable g.S.Suite.crypto) same c.self.invariant)
