use Rattle.std.proofs.Common.{ap, ◌∙◌}
use Rattle.mls_model.specs.Member.{without_pending}
use Rattle.mls_model.specs.World.{Seat}
use Rattle.mls_world_plain.proofs.Recording.{set_to}
use Rattle.mls_world_plain.proofs.world.PlainWorld.forget.Goals as goal

pub returns-clause-none : goal.returns-clause-none
returns-clause-none g c = λ s found.
    set_to c.args.self.now c.self.inside.entrants.items c.self.inside.seats.items c.self.inside.messages.items c.self.inside.made.items c.self.inside.journals.list
    c.args.k c.index_mut-seat.result.now (record { member = c.seat.inside.member; journal = c.seat.inside.journal }) s c.drop_pending.new.self (without_pending s.member)
    c.self.view_is c.seat.view_is c.index_mut-seat.ensures.value c.requires found
    (λ is. c.drop_pending.ensures.none ∙ ap (λ (z : Seat). without_pending z.member) is)
