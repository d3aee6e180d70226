-- What holds of runs by their definition alone.
use Rattle.std.proofs.Common.{◌≡◌, ℕ, suc, Bool, true, false, List, [], ◌∷◌, slice_get, Result, Ok, Err, refl, ap, sym, ◌∙◌}
use Rattle.std.proofs.lemmas.Slice.Eq.{bytes_eq-Decides}
use Rattle.mls_leaf.specs.declared.extension.Extension.{Extension}
use Rattle.mls_wire.specs.Laws.{ok_is}
use Rattle.mls_wire.proofs.CheckLaws.{bind_ok, then_ok}
use Rattle.mls_wire.specs.Checks.{require}
use Rattle.mls_suite.specs.Crypto.{Crypto}
use Rattle.mls_model.specs.declared.effect.Effect.{Effect}
use Rattle.mls_model.specs.declared.effect.Effect.TheVariants.{Advanced}
use Rattle.mls_model.specs.declared.event.Source.{Source}
use Rattle.mls_model.specs.declared.event.WorldItem.{WorldItem}
use Rattle.mls_model.specs.declared.event.Event.{Event}
use Rattle.mls_model.specs.declared.event.Event.TheVariants as event
use Rattle.mls_model.specs.declared.event.Reply.{Reply}
use Rattle.mls_model.specs.declared.event.Reply.TheVariants as reply
use Rattle.mls_model.specs.Member.{Member, with_epoch}
use Rattle.mls_model.specs.Verdict.{verdict}
use Rattle.mls_model.specs.Candidate.{new_candidate, create_group}
use Rattle.mls_model.specs.Propose.{propose_add, propose_update, propose_remove, propose_extensions}
use Rattle.mls_model.specs.Make.{make}
use Rattle.mls_model.specs.Join.{join_verdict}
use Rattle.mls_model.specs.World.{World, Seat, seat_at, entrant_at, bytes_of, package_of, items_of}
use Rattle.mls_model.specs.WorldCalls.{journal_after, candidate_answer, create_answer, propose_add_answer, propose_update_answer, propose_remove_answer, propose_extensions_answer, commit_answer, drop_answer, deliver_answer, join_answer}
use Rattle.mls_model.specs.Run.{answer, step_by, step, run, replies}
use Rattle.mls_model.specs.VerdictFindings.{DidPending}
use Rattle.mls_model.specs.VerdictCases.{Taking.follows_own}
use Rattle.mls_model.proofs.WayBackLaws.{so_taken}
use Rattle.mls_model.proofs.UnchangedLaws.{get_here, DeliveryIs, delivery}
use Rattle.mls_model.specs.RunLaws.{RunInParts, RepliesInParts, OneReplyEach, RefusedLeave, AnsweredStep, OwnIsFollowed}

pub run_in_parts : RunInParts
unfolding run
run_in_parts c w [] ys = refl
run_in_parts c w (x ∷ xs) ys = run_in_parts c (step c w x).1 xs ys

pub replies_in_parts : RepliesInParts
unfolding run replies
replies_in_parts c w [] ys = refl
replies_in_parts c w (x ∷ xs) ys = ap (λ (rs : List Reply). (step c w x).0 ∷ rs) (replies_in_parts c (step c w x).1 xs ys)

pub one_reply_each : OneReplyEach
unfolding replies
one_reply_each c w [] = refl
one_reply_each c w (x ∷ xs) = ap suc (one_reply_each c (step c w x).1 xs)

-- ---- refusals

abbrev answering : Reply → World → Result (Reply × World) ℕ
answering r w = Ok (r, w)

abbrev is_refusal : Reply → Bool
is_refusal (reply.Refused n) = true
is_refusal other = false

-- what a call answers is no refusal
answers_no_refusal : (r : Reply) (v : World) (x : Reply × World) → is_refusal r ≡ false → answering r v ≡ Ok x → is_refusal x.0 ≡ false
answers_no_refusal r v x is h = ap (λ (y : Reply × World). is_refusal y.0) (sym (ok_is _ _ h)) ∙ is

of_candidate : (c : Crypto) (w : World) (identity seed : List ℕ) (x : Reply × World) → candidate_answer c w identity seed ≡ Ok x → is_refusal x.0 ≡ false
unfolding candidate_answer
of_candidate c w identity seed x h = let s1 = then_ok (require 93 _) _ x h in let s2 = bind_ok (new_candidate c identity seed) _ x s1.1 in answers_no_refusal _ _ x refl s2.2

of_create : (c : Crypto) (w : World) (n : ℕ) (group seed : List ℕ) (x : Reply × World) → create_answer c w n group seed ≡ Ok x → is_refusal x.0 ≡ false
unfolding create_answer
of_create c w n group seed x h = let s1 = bind_ok (entrant_at w n) _ x h in let s2 = bind_ok (create_group c s1.0.candidate group seed) _ x s1.2 in answers_no_refusal _ _ x refl s2.2

of_propose_add : (c : Crypto) (w : World) (k : ℕ) (source : Source) (x : Reply × World) → propose_add_answer c w k source ≡ Ok x → is_refusal x.0 ≡ false
unfolding propose_add_answer
of_propose_add c w k source x h = let s1 = bind_ok (seat_at w k) _ x h in let s2 = bind_ok (package_of w source) _ x s1.2 in let s3 = bind_ok (propose_add c s1.0.member s2.0) _ x s2.2 in answers_no_refusal _ _ x refl s3.2

of_propose_update : (c : Crypto) (w : World) (k : ℕ) (seed : List ℕ) (x : Reply × World) → propose_update_answer c w k seed ≡ Ok x → is_refusal x.0 ≡ false
unfolding propose_update_answer
of_propose_update c w k seed x h = let s1 = bind_ok (seat_at w k) _ x h in let s2 = bind_ok (propose_update c s1.0.member seed) _ x s1.2 in answers_no_refusal _ _ x refl s2.2

of_propose_remove : (c : Crypto) (w : World) (k leaf : ℕ) (x : Reply × World) → propose_remove_answer c w k leaf ≡ Ok x → is_refusal x.0 ≡ false
unfolding propose_remove_answer
of_propose_remove c w k leaf x h = let s1 = bind_ok (seat_at w k) _ x h in let s2 = bind_ok (propose_remove c s1.0.member leaf) _ x s1.2 in answers_no_refusal _ _ x refl s2.2

of_propose_extensions : (c : Crypto) (w : World) (k : ℕ) (list : List Extension) (x : Reply × World) → propose_extensions_answer c w k list ≡ Ok x → is_refusal x.0 ≡ false
unfolding propose_extensions_answer
of_propose_extensions c w k list x h = let s1 = bind_ok (seat_at w k) _ x h in let s2 = then_ok (require 14 _) _ x s1.2 in let s3 = bind_ok (propose_extensions c s1.0.member list) _ x s2.1 in answers_no_refusal _ _ x refl s3.2

of_commit : (c : Crypto) (w : World) (k : ℕ) (items : List WorldItem) (path : Bool) (seed : List ℕ) (x : Reply × World) → commit_answer c w k items path seed ≡ Ok x → is_refusal x.0 ≡ false
unfolding commit_answer
of_commit c w k items path seed x h = let s1 = bind_ok (seat_at w k) _ x h in let s2 = bind_ok (items_of w items) _ x s1.2 in let s3 = bind_ok (make c s1.0.member s2.0 path seed) _ x s2.2 in answers_no_refusal _ _ x refl s3.2

of_drop : (w : World) (k : ℕ) (x : Reply × World) → drop_answer w k ≡ Ok x → is_refusal x.0 ≡ false
unfolding drop_answer
of_drop w k x h = let s1 = bind_ok (seat_at w k) _ x h in answers_no_refusal _ _ x refl s1.2

of_deliver : (c : Crypto) (w : World) (k : ℕ) (source : Source) (x : Reply × World) → deliver_answer c w k source ≡ Ok x → is_refusal x.0 ≡ false
unfolding deliver_answer
of_deliver c w k source x h = let s1 = bind_ok (seat_at w k) _ x h in let s2 = bind_ok (bytes_of w source) _ x s1.2 in let s3 = bind_ok (verdict c s1.0.member s2.0) _ x s2.2 in answers_no_refusal _ _ x refl s3.2

of_join : (c : Crypto) (w : World) (n : ℕ) (source : Source) (x : Reply × World) → join_answer c w n source ≡ Ok x → is_refusal x.0 ≡ false
unfolding join_answer
of_join c w n source x h = let s1 = bind_ok (entrant_at w n) _ x h in let s2 = bind_ok (bytes_of w source) _ x s1.2 in let s3 = bind_ok (join_verdict c s1.0.candidate s2.0) _ x s2.2 in answers_no_refusal _ _ x refl s3.2

of_event : (c : Crypto) (w : World) (e : Event) (x : Reply × World) → answer c w e ≡ Ok x → is_refusal x.0 ≡ false
unfolding answer
of_event c w (event.Candidate identity seed) x h = of_candidate c w identity.items seed x h
of_event c w (event.Create n group seed) x h = of_create c w n group.items seed x h
of_event c w (event.ProposeAdd k source) x h = of_propose_add c w k source x h
of_event c w (event.ProposeUpdate k seed) x h = of_propose_update c w k seed x h
of_event c w (event.ProposeRemove k leaf) x h = of_propose_remove c w k leaf x h
of_event c w (event.ProposeExtensions k list) x h = of_propose_extensions c w k list.items x h
of_event c w (event.Commit k items path seed) x h = of_commit c w k items.items path seed x h
of_event c w (event.DropPending k) x h = of_drop w k x h
of_event c w (event.Deliver k source) x h = of_deliver c w k source x h
of_event c w (event.Join n source) x h = of_join c w n source x h

by_answer : (c : Crypto) (w : World) (e : Event) (n : ℕ) (r : Result (Reply × World) ℕ) → answer c w e ≡ r → (step_by w r).0 ≡ reply.Refused n → (r ≡ Err n) × ((step_by w r).1 ≡ w)
by_answer c w e n (Ok x) a h = let never : true ≡ false = ap is_refusal (sym h) ∙ of_event c w e x a in absurd cc
by_answer c w e n (Err k) a h = let same : k ≡ n = cc in (ap (λ (i : ℕ). Err i) same, refl)

pub refused_leave : RefusedLeave
unfolding step
refused_leave c w e n h = by_answer c w e n (answer c w e) refl h

pub answered_step : AnsweredStep
unfolding step
answered_step c w e x h = ap (step_by w) h

pub own_is_followed : OwnIsFollowed
unfolding with_epoch
own_is_followed c w k s p source a pending b =
    let n : Member = with_epoch s.member p.public p.epoch_secret p.keys in
    let x : Effect × Member = (Advanced p.public.context.epoch, n) in
    let took : DidPending s.member p.message x =
    record { pending = p; is_pending = pending; is_message = (bytes_eq-Decides p.message p.message).1 refl; is = refl } in
    let v : verdict c s.member p.message ≡ Ok x = so_taken c s.member p.message x (follows_own a.active took) in
    let d : DeliveryIs c w k s source p.message x = delivery c w k s source p.message x a.is b v in
    let t : Seat = record { member = n; journal = journal_after s p.message x.0 } in
    record {
      after = t;
      reply = d.reply;
      is_after = record { is = ap (λ (l : List Seat). slice_get l k) d.seats ∙ get_here w.seats k t s a.is; active = a.active };
      public = refl;
      journal = refl;
      epoch = refl;
    }
