use Rattle.std.proofs.Common.{Err, sym, subst, slice_set}
use Rattle.std.proofs.lemmas.Result.{err_from_is_err_and}
use Rattle.mls_model.specs.World.{World}
use Rattle.mls_world_plain.specs.StoredWorld.{world_of}
use Rattle.mls_world_plain.proofs.Changing.{stored_moved}
use Rattle.mls_world_plain.proofs.Delivering.{DoesDeliver, handed_over, not_lent, source_unlent, source_refused}
use Rattle.mls_world_plain.proofs.world.PlainWorld.deliver.Goals as goal

pub returns-in_err-bytes-clause-does : goal.returns-in_err-bytes-clause-does
returns-in_err-bytes-clause-does g c =
    let p = err_from_is_err_and c.from_residual.result c.from_residual.ensures.1 in
    let old : World = world_of c.self.inside.entrants.items c.self.inside.seats.items c.self.inside.messages.items c.self.inside.made.items c.self.inside.journals.list in
    let new : World = world_of c.self.inside.entrants.items (slice_set c.self.inside.seats.items c.args.member c.in-Some.seat.now) c.self.inside.messages.items c.self.inside.made.items c.self.inside.journals.list in
    rw (p.1, p.2) (subst (λ (w : World). DoesDeliver g.S.Suite.crypto w c.args.member c.args.source.now new (Err c.in_err-bytes.field-0.0)) c.self.view_is
    (not_lent g.S.Suite.crypto c.self.inside.entrants.items c.self.inside.seats.items c.self.inside.messages.items c.self.inside.made.items c.self.inside.journals.list c.args.member c.in-Some.seat.now c.args.source.now c.in_err-bytes.field-0.0
    c.in-Some.ensures.item.3.0 c.in-Some.ensures.value (c.in_err-bytes.ensures old (sym c.deref.ensures.value))))

pub invariant_of-self-2 : goal.invariant_of-self-2
invariant_of-self-2 g c = stored_moved c.self.inside.seats.items c.self.inside.made.items c.self.inside.journals.list c.hand_bytes.new.journals.list c.args.member c.hand_bytes.new.seat c.self.invariant c.hand_bytes.ensures.more c.hand_bytes.ensures.within

pub returns-clause-does : goal.returns-clause-does
returns-clause-does g c =
    let old : World = world_of c.self.inside.entrants.items c.self.inside.seats.items c.self.inside.messages.items c.self.inside.made.items c.self.inside.journals.list in
    let new : World = world_of c.self.inside.entrants.items (slice_set c.self.inside.seats.items c.args.member c.hand_bytes.new.seat) c.self.inside.messages.items c.self.inside.made.items c.hand_bytes.new.journals.list in
    subst (λ (w : World). DoesDeliver g.S.Suite.crypto w c.args.member c.args.source.now new c.hand_bytes.result) c.self.view_is
    (handed_over g.S.Suite.crypto c.self.inside.entrants.items c.self.inside.seats.items c.self.inside.messages.items c.self.inside.made.items c.self.inside.journals.list c.hand_bytes.new.journals.list c.args.member c.in-Some.seat.now c.hand_bytes.new.seat c.args.source.now c.in_ok-bytes.bytes.now c.hand_bytes.result
    c.self.invariant c.hand_bytes.ensures.more c.in-Some.ensures.item.3.0 c.in-Some.ensures.value (c.in_ok-bytes.ensures old (sym c.deref.ensures.value)) c.hand_bytes.ensures.does)

pub returns-in_err-bytes-clause-outright : goal.returns-in_err-bytes-clause-outright
returns-in_err-bytes-clause-outright g c = λ n h.
    let p = err_from_is_err_and c.from_residual.result c.from_residual.ensures.1 in
    let old : World = world_of c.self.inside.entrants.items c.self.inside.seats.items c.self.inside.messages.items c.self.inside.made.items c.self.inside.journals.list in
    rw (p.1, p.2) (source_unlent c.self.inside.entrants.items c.self.inside.seats.items c.self.inside.messages.items c.self.inside.made.items c.self.inside.journals.list c.args.self.now c.args.member c.in-Some.seat.now c.args.source.now n
    c.self.view_is c.in-Some.ensures.item.3.0 c.in-Some.ensures.value h _ (c.in_err-bytes.ensures old (sym c.deref.ensures.value)))

pub returns-clause-outright : goal.returns-clause-outright
returns-clause-outright g c = λ n h.
    let old : World = world_of c.self.inside.entrants.items c.self.inside.seats.items c.self.inside.messages.items c.self.inside.made.items c.self.inside.journals.list in
    c.hand_bytes.ensures.outright n
    (source_refused c.self.inside.entrants.items c.self.inside.seats.items c.self.inside.messages.items c.self.inside.made.items c.self.inside.journals.list c.args.self.now c.args.member c.in-Some.seat.now c.args.source.now n
    c.self.view_is c.in-Some.ensures.item.3.0 c.in-Some.ensures.value h c.in_ok-bytes.bytes.now (c.in_ok-bytes.ensures old (sym c.deref.ensures.value)))
