use Rattle.mls_world_plain.proofs.Recording.{dropped}
use Rattle.mls_world_plain.proofs.world.PlainWorld.drop_pending.Goals as goal

pub returns : goal.returns
returns g c = record { does = dropped c.args.self.now _ c.args.member _ c.in_ok-require_member.ensures.there c.forget.ensures.had c.forget.ensures.none; outright = tt }
