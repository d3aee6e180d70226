-- What a delivery to a seat does to the world.
use Rattle.std.proofs.Common.{◌≡◌, ℕ, ◌<◌, List, length, Result, Ok, Err, sym, ap, subst, ◌∙◌, get_or, slice_set}
use Rattle.mls_wire.specs.Checks.{DoesAs}
use Rattle.mls_suite.specs.Crypto.{Crypto}
use Rattle.mls_model.specs.declared.effect.Effect.{Effect}
use Rattle.mls_model.specs.declared.event.Source.{Source}
use Rattle.mls_model.specs.declared.event.Reply.{Reply}
use Rattle.mls_model.specs.declared.event.Reply.TheVariants as reply
use Rattle.mls_member.specs.EarlyChecks.{early_checks as early_member_checks}
use Rattle.mls_model.specs.Journal.{Journal}
use Rattle.mls_model.specs.WorldCalls.{deliver_answer}
use Rattle.mls_model.specs.World.{Entrant, World, bytes_of}
use Rattle.mls_world_plain.specs.declared.error.WorldError.{WorldError}
use Rattle.mls_world_plain.specs.Faults.{number_of}
use Rattle.mls_world_plain.specs.CallParts.{seat_verdict}
use Rattle.mls_world_plain.specs.StoredWorld.{AreMore, Seated, Making, seat_of, world_of, AreStored}
use Rattle.mls_world_plain.specs.EarlyChecks.{early_delivery_checks}
use Rattle.mls_world_plain.proofs.EarlyChecks.{delivery_unlent, delivery_refused}
use Rattle.mls_world_plain.proofs.Stores.{seat_found, unchanged}
use Rattle.mls_world_plain.proofs.Changing.{delivered, undelivered, no_source, seat_moved, seat_kept}

-- what a delivery promises, from a world to another
abbrev pub DoesDeliver : Crypto → World → ℕ → Source → World → Result Effect WorldError → Type 0
DoesDeliver c w k source new r = DoesAs (λ (e : Effect). reply.Delivered e) number_of (deliver_answer c w k source) w new r

abbrev replied : Effect → World → Result (Reply × World) ℕ
replied e w = Ok (reply.Delivered e, w)

pub handed_over : (c : Crypto) (es : List Entrant) (ss : List Seated) (ms : List (List ℕ)) (ds : List Making) (js new : List Journal) (k : ℕ) (s t : Seated) (source : Source) (bytes : List ℕ) (r : Result Effect WorldError)
    → AreStored ss ds js → AreMore js new → k < length ss → s ≡ get_or ss k s → bytes_of (world_of es ss ms ds js) source ≡ Ok bytes
    → DoesAs (λ (e : Effect). e) number_of (seat_verdict c (seat_of js s) bytes) (seat_of js s) (seat_of new t) r
    → DoesDeliver c (world_of es ss ms ds js) k source (world_of es (slice_set ss k t) ms ds new) r
handed_over c es ss ms ds js new k s t source bytes (Ok e) stored more lt at lent h =
    delivered c (world_of es ss ms ds js) k source bytes (seat_of js s) (seat_of new t) e (seat_found js ss k s lt at) lent h
    ∙ ap (λ (w : World). replied e w) (sym (seat_moved es ss ms ds js new k t stored more))
handed_over c es ss ms ds js new k s t source bytes (Err e) stored more lt at lent h = (
  seat_kept es ss ms ds js new k s t stored more at h.0,
  λ other. undelivered c (world_of es ss ms ds js) k source bytes (seat_of js s) (number_of e) (seat_found js ss k s lt at) lent (h.1 other),
)

pub not_lent : (c : Crypto) (es : List Entrant) (ss : List Seated) (ms : List (List ℕ)) (ds : List Making) (js : List Journal) (k : ℕ) (s : Seated) (source : Source) (e : WorldError)
    → k < length ss → s ≡ get_or ss k s → bytes_of (world_of es ss ms ds js) source ≡ Err (number_of e)
    → DoesDeliver c (world_of es ss ms ds js) k source (world_of es (slice_set ss k s) ms ds js) (Err e)
not_lent c es ss ms ds js k s source e lt at lent = (
  ap (λ (l : List Seated). world_of es l ms ds js) (unchanged ss k s at),
  λ other. no_source c (world_of es ss ms ds js) k source (seat_of js s) (number_of e) (seat_found js ss k s lt at) lent,
)

-- what is refused before anything grows, of a member that is there
module _ (es : List Entrant) (ss : List Seated) (ms : List (List ℕ)) (ds : List Making) (js : List Journal) (w : World) (k : ℕ) (s : Seated) (source : Source) (n : ℕ)
    (is : world_of es ss ms ds js ≡ w) (lt : k < length ss) (at : s ≡ get_or ss k s) (h : early_delivery_checks w k source ≡ Err n) where
  here : early_delivery_checks (world_of es ss ms ds js) k source ≡ Err n
  here = subst (λ (v : World). early_delivery_checks v k source ≡ Err n) (sym is) h

  pub source_unlent : (m : ℕ) → bytes_of (world_of es ss ms ds js) source ≡ Err m → m ≡ n
  source_unlent m lent = delivery_unlent (world_of es ss ms ds js) k source (seat_of js s) n (seat_found js ss k s lt at) here m lent

  pub source_refused : (bytes : List ℕ) → bytes_of (world_of es ss ms ds js) source ≡ Ok bytes → early_member_checks s.member bytes ≡ Err n
  source_refused bytes lent = delivery_refused (world_of es ss ms ds js) k source (seat_of js s) n (seat_found js ss k s lt at) here bytes lent
