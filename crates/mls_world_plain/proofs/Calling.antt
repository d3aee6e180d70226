-- What proposals and other calls of one member do to a world.
use Rattle.std.proofs.Common.{◌≡◌, ℕ, ◌<◌, List, length, map, Some, None, Result, Ok, Err, refl, ap, get_or, slice_get, slice_set}
use Rattle.mls_wire.specs.Reading.{◌>>=◌}
use Rattle.mls_model.specs.Journal.{Journal, CommitMade}
use Rattle.mls_model.specs.Member.{Member}
use Rattle.mls_model.specs.declared.event.Reply.{Reply}
use Rattle.mls_model.specs.WorldCalls.{proposal_answer}
use Rattle.mls_model.specs.World.{Entrant, Seat, World, with_member, seat_at}
use Rattle.mls_public_group.proofs.Rest.{all_at}
use Rattle.mls_world_plain.specs.StoredWorld.{Seated, Making, seat_of, commit_made_of, world_of, AreStored, IsWithin}
use Rattle.mls_world_plain.proofs.Stores.{seat_set, all_set}

-- a member that is changed, at the same journal
abbrev pub at_same : Seated → Member → Seated
at_same s m = record { member = m; journal = s.journal }

abbrev the_world : List Entrant → List Seat → List (List ℕ) → List CommitMade → World
the_world es seats ms made = record { entrants = es; seats = seats; messages = ms; commits = made }

-- member k is changed
pub member_changed : (es : List Entrant) (ss : List Seated) (ms : List (List ℕ)) (ds : List Making) (js : List Journal) (k : ℕ) (s : Seated) (m : Member)
    → world_of es (slice_set ss k (at_same s m)) ms ds js ≡ with_member (world_of es ss ms ds js) k (seat_of js s) m
member_changed es ss ms ds js k s m = ap (λ (seats : List Seat). the_world es seats ms (map (commit_made_of js) ds)) (seat_set js ss k (at_same s m))

-- a call of member k, by what it does to the member
abbrev calls : World → ℕ → (Member → Result (List ℕ × Member) ℕ) → Result (Reply × World) ℕ
calls w k f = seat_at w k >>= λ s. f s.member >>= λ x. Ok (proposal_answer w k s x)

pub sends : (w : World) (k : ℕ) (f : Member → Result (List ℕ × Member) ℕ) (s : Seat) (m : Member) (bytes : List ℕ) → slice_get w.seats k ≡ Some s → f s.member ≡ Ok (bytes, m) → calls w k f ≡ Ok (proposal_answer w k s (bytes, m))
sends w k f s m bytes found e = rw (found, e) refl

pub refuses : (w : World) (k : ℕ) (f : Member → Result (List ℕ × Member) ℕ) (s : Seat) (n : ℕ) → slice_get w.seats k ≡ Some s → f s.member ≡ Err n → calls w k f ≡ Err n
refuses w k f s n found e = rw (found, e) refl

pub missing : (w : World) (k : ℕ) (f : Member → Result (List ℕ × Member) ℕ) → slice_get w.seats k ≡ None → calls w k f ≡ Err 90
missing w k f found = rw found refl

-- the journals of members after one of them was changed
pub stored_set : (ss : List Seated) (ds : List Making) (js : List Journal) (k : ℕ) (s : Seated) → AreStored ss ds js → IsWithin js s.journal → AreStored (slice_set ss k s) ds js
stored_set ss ds js k s h lt = record { seats = all_set (λ (x : Seated). IsWithin js x.journal) ss k s h.seats lt; made = h.made }

pub stands_at : (ss : List Seated) (ds : List Making) (js : List Journal) (k : ℕ) (s : Seated) → AreStored ss ds js → k < length ss → s ≡ get_or ss k s → IsWithin js s.journal
stands_at ss ds js k s h lt e = all_at (λ (x : Seated). IsWithin js x.journal) ss k s h.seats lt e
