use Rattle.std.proofs.Common.{sym, ap, ◌∙◌}
use Rattle.mls_model.specs.World.{World}
use Rattle.mls_world_plain.proofs.world.PlainWorld.bytes_of.Goals as goal

pub returns : goal.returns
returns g c = c.bytes_of.ensures c.args.self.now (ap (λ (w : World). w.messages) (sym c.self.view_is) ∙ sym c.deref.ensures.value)
