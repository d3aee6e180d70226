-- What deliveries and joins leave as it was, in every world.
use Rattle.std.proofs.Common.{◌≡◌, ℕ, zero, suc, ◌<◌, List, [], ◌∷◌, ◌++◌, length, true, Some, Result, Ok, Err, refl, ap, subst, slice_get, slice_set, arith}
use Rattle.std.specs.Prelude.{◌≢◌}
use Rattle.std.proofs.Math.ListN.{length-set}
use Rattle.mls_wire.proofs.CheckLaws.{bind_ok}
use Rattle.mls_wire.specs.Laws.{ok_is}
use Rattle.mls_suite.specs.Crypto.{Crypto}
use Rattle.mls_model.specs.declared.effect.Effect.{Effect}
use Rattle.mls_model.specs.declared.event.Event.TheVariants.{Deliver}
use Rattle.mls_model.specs.declared.event.Reply.{Reply}
use Rattle.mls_model.specs.declared.event.Reply.TheVariants.{Delivered, Joined}
use Rattle.mls_model.specs.declared.event.Source.{Source}
use Rattle.mls_model.specs.WorldCalls.{journal_after, deliver_answer, join_answer}
use Rattle.mls_model.specs.Headline.{KeepsOthers, KeepsMembers}
use Rattle.mls_model.specs.Join.{join_verdict}
use Rattle.mls_model.specs.Member.{Member}
use Rattle.mls_model.specs.Run.{answer, step_by, step}
use Rattle.mls_model.specs.Verdict.{verdict}
use Rattle.mls_model.specs.World.{World, Entrant, Seat, with_new_member, seat_at, entrant_at, bytes_of, commit_for_joiner, joiner_journal}
use Rattle.mls_model.specs.UnchangedLaws.{OthersAreKept, MembersAreKept}

-- ---- lists

-- what is set stands there
pub get_here : {A : Type 0} (xs : List A) (k : ℕ) (y x : A) → slice_get xs k ≡ Some x → slice_get (slice_set xs k y) k ≡ Some y
get_here [] k y x h = absurd cc
get_here (z ∷ xs) zero y x h = refl
get_here (z ∷ xs) (suc k) y x h = get_here xs k y x h

-- and elsewhere is what was
pub get_apart : {A : Type 0} (xs : List A) (k : ℕ) (y : A) (i : ℕ) → i ≢ k → slice_get (slice_set xs k y) i ≡ slice_get xs i
get_apart [] k y i apart = refl
get_apart (z ∷ xs) zero y zero apart = absurd (apart refl)
get_apart (z ∷ xs) zero y (suc i) apart = refl
get_apart (z ∷ xs) (suc k) y zero apart = refl
get_apart (z ∷ xs) (suc k) y (suc i) apart = get_apart xs k y i (λ e. apart (ap suc e))

-- as it is in front of more
pub get_front : {A : Type 0} (xs ys : List A) (i : ℕ) → i < length xs → slice_get (xs ++ ys) i ≡ slice_get xs i
get_front [] ys i l = absurd (omega arith)
get_front (x ∷ xs) ys zero l = refl
get_front (x ∷ xs) ys (suc i) l = get_front xs ys i (omega arith)

-- ---- deliveries

-- what a delivery does, by the member's verdict
pub record DeliveryIs (c : Crypto) (w : World) (k : ℕ) (s : Seat) (source : Source) (bytes : List ℕ) (x : Effect × Member) : Type 0 where
  pub reply : (step c w (Deliver k source)).0 ≡ Delivered x.0
  pub seats : (step c w (Deliver k source)).1.seats ≡ slice_set w.seats k (record { member = x.1; journal = journal_after s bytes x.0 })

pub delivery : (c : Crypto) (w : World) (k : ℕ) (s : Seat) (source : Source) (bytes : List ℕ) (x : Effect × Member) → slice_get w.seats k ≡ Some s → bytes_of w source ≡ Ok bytes → verdict c s.member bytes ≡ Ok x → DeliveryIs c w k s source bytes x
unfolding step answer deliver_answer
delivery c w k s source bytes x at b h = record { reply = rw (at, b, h) refl; seats = rw (at, b, h) refl }

others_still : (w : World) (k : ℕ) → KeepsOthers w w k
others_still w k = record { count = refl; seats = λ i apart. refl; entrants = refl; messages = refl; made = refl }

others_set : (w : World) (k : ℕ) (t : Seat) → KeepsOthers w (record w { seats = slice_set w.seats k t }) k
others_set w k t = record { count = length-set w.seats k t; seats = λ i apart. get_apart w.seats k t i apart; entrants = refl; messages = refl; made = refl }

abbrev answering : Reply × World → Result (Reply × World) ℕ
answering x = Ok x

others_to : (w : World) (k : ℕ) (x y : Reply × World) → answering y ≡ Ok x → KeepsOthers w y.1 k → KeepsOthers w x.1 k
others_to w k x y e h = subst (λ (z : Reply × World). KeepsOthers w z.1 k) (ok_is y x e) h

others_by : (c : Crypto) (w : World) (k : ℕ) (source : Source) (r : Result (Reply × World) ℕ) → deliver_answer c w k source ≡ r → KeepsOthers w (step_by w r).1 k
unfolding deliver_answer
others_by c w k source (Err n) h = others_still w k
others_by c w k source (Ok x) h =
    let s1 = bind_ok (seat_at w k) _ _ h in
    let s2 = bind_ok (bytes_of w source) _ _ s1.2 in
    let s3 = bind_ok (verdict c s1.0.member s2.0) _ _ s2.2 in
    let t : Seat = record { member = s3.0.1; journal = journal_after s1.0 s2.0 s3.0.0 } in
    others_to w k x (Delivered s3.0.0, record w { seats = slice_set w.seats k t }) s3.2 (others_set w k t)

pub others_kept : OthersAreKept
unfolding step answer
others_kept c w k source = others_by c w k source (deliver_answer c w k source) refl

-- ---- joins

members_still : (w : World) (n : ℕ) → KeepsMembers w w n
members_still w n = record { seats = λ i l. refl; entrants = λ i apart. refl; messages = refl; made = refl }

members_joined : (w : World) (n : ℕ) (e : Entrant) (t : Seat) → KeepsMembers w (with_new_member w n e t) n
members_joined w n e t = record {
  seats = λ i l. get_front w.seats (t ∷ []) i l;
  entrants = λ i apart. get_apart w.entrants n (record { candidate = e.candidate; is_spent = true }) i apart;
  messages = refl;
  made = refl;
}

members_to : (w : World) (n : ℕ) (x y : Reply × World) → answering y ≡ Ok x → KeepsMembers w y.1 n → KeepsMembers w x.1 n
members_to w n x y e h = subst (λ (z : Reply × World). KeepsMembers w z.1 n) (ok_is y x e) h

members_by : (c : Crypto) (w : World) (n : ℕ) (source : Source) (r : Result (Reply × World) ℕ) → join_answer c w n source ≡ r → KeepsMembers w (step_by w r).1 n
unfolding join_answer
members_by c w n source (Err f) h = members_still w n
members_by c w n source (Ok x) h =
    let s1 = bind_ok (entrant_at w n) _ _ h in
    let s2 = bind_ok (bytes_of w source) _ _ s1.2 in
    let s3 = bind_ok (join_verdict c s1.0.candidate s2.0) _ _ s2.2 in
    let t : Seat = record { member = s3.0.member; journal = joiner_journal (commit_for_joiner w.commits source s1.0.candidate) s3.0.info } in
    members_to w n x (Joined (length w.seats) s3.0.member.public.context.epoch, with_new_member w n s1.0 t) s3.2 (members_joined w n s1.0 t)

pub members_kept : MembersAreKept
unfolding step answer
members_kept c w n source = members_by c w n source (join_answer c w n source) refl
