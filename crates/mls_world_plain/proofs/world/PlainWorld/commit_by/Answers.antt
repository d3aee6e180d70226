use Rattle.std.proofs.Common.{map, ap, sym, ◌∙◌}
use Rattle.mls_member.specs.Answers.{messages_of}
use Rattle.mls_model.specs.Make.{list_item_of}
use Rattle.mls_model.specs.World.{Seat}
use Rattle.mls_world_plain.proofs.Recording.{commit_done, commit_fails, seat_is, none_pends}
use Rattle.mls_world_plain.proofs.world.PlainWorld.commit_by.Goals as goal

pub returns-in-Err-clause-does : goal.returns-in-Err-clause-does
returns-in-Err-clause-does g c =
    commit_fails g.S.Suite.crypto c.args.self.now c.self.inside.entrants.items c.self.inside.seats.items c.self.inside.messages.items c.self.inside.made.items c.self.inside.journals.list
    c.args.k c.index_mut-seat.result.now (record { member = c.seat.inside.member; journal = c.seat.inside.journal }) (map list_item_of c.args.list.now) c.args.path c.args.seed.now c.commit.new.self _
    c.self.view_is c.seat.view_is c.index_mut-seat.ensures.value c.requires.there c.in-Err.ensures.answer

pub returns-clause-does : goal.returns-clause-does
returns-clause-does g c =
    commit_done g.S.Suite.crypto c.args.self.now c.self.inside.entrants.items c.self.inside.seats.items c.self.inside.messages.items c.self.inside.made.items c.self.inside.journals.list
    c.args.k c.index_mut-seat.result.now (record { member = c.seat.inside.member; journal = c.seat.inside.journal }) (map list_item_of c.args.list.now) c.args.path c.args.seed.now (messages_of c.in-Ok.made) c.commit.new.self
    c.self.view_is c.seat.view_is c.index_mut-seat.ensures.value c.requires.there c.in-Ok.ensures.answer

pub returns-clause-free : goal.returns-clause-free
returns-clause-free g c = λ s found.
    let is = seat_is c.args.self.now c.self.inside.entrants.items c.self.inside.seats.items c.self.inside.messages.items c.self.inside.made.items c.self.inside.journals.list
    c.args.k c.index_mut-seat.result.now (record { member = c.seat.inside.member; journal = c.seat.inside.journal }) s c.self.view_is c.seat.view_is c.index_mut-seat.ensures.value c.requires.there found in
    ap (λ (z : Seat). z.member.pending) (sym is) ∙ none_pends c.seat.inside.member.gone c.seat.inside.member.pending _ _ _ c.in-Ok.ensures.gone c.in-Ok.ensures.pending
