-- Members, journals and records, as a world stores them.
use Rattle.std.proofs.Common.{◌≡◌, ℕ, zero, suc, ◌<◌, ◌≤◌, List, [], ◌∷◌, ◌++◌, length, map, Option, Some, None, refl, sym, ap, subst, ◌∙◌, arith, get_or, slice_get, slice_set}
use Rattle.std.specs.Prelude.{option_map}
use Rattle.std.specs.List.{AllByRecursion}
use Rattle.std.proofs.lemmas.List.{length-append, set-get_or, map-set}
use Rattle.std.proofs.lemmas.Option.{slice_get-map, slice_get_read, slice_get_past}
use Rattle.mls_model.specs.Journal.{Journal, CommitMade, with_entry}
use Rattle.mls_model.specs.World.{Entrant, Seat}
use Rattle.mls_world_plain.specs.StoredWorld.{journal_before, latest, IsWithin, HasEntry, Seated, Making, seat_of, commit_made_of, world_of, AreStored}
use Rattle.mls_world_plain.proofs.JournalSteps.{journal_stays}

-- ---- lists

pub all_set : {X : Type 0} (P : X → Type 0) (xs : List X) (k : ℕ) (x : X) → AllByRecursion P xs → P x → AllByRecursion P (slice_set xs k x)
all_set P [] k x h p = tt
all_set P (y ∷ xs) zero x h p = (p, h.1)
all_set P (y ∷ xs) (suc k) x h p = (h.0, all_set P xs k x h.1 p)

pub all_so : {X : Type 0} (P Q : X → Type 0) (xs : List X) → ((x : X) → P x → Q x) → AllByRecursion P xs → AllByRecursion Q xs
all_so P Q [] f h = tt
all_so P Q (x ∷ xs) f h = (f x h.0, all_so P Q xs f h.1)

maps_alike : {X Y : Type 0} (P : X → Type 0) (f g : X → Y) (xs : List X) → ((x : X) → P x → f x ≡ g x) → AllByRecursion P xs → map f xs ≡ map g xs
maps_alike P f g [] e h = refl
maps_alike P f g (x ∷ xs) e h = let a = e x h.0 in let b = maps_alike P f g xs e h.1 in cc

-- ---- a member and a record by their journals

abbrev the_seat : Seated → Journal → Seat
the_seat s j = record { member = s.member; journal = j }

abbrev the_made : Making → Journal → CommitMade
the_made d j = record { maker = d.maker; journal = journal_before j; entry = latest j; epoch_secret = d.epoch_secret; adds = d.adds; welcome = d.welcome }

-- ---- more journals behind those that are there

pub within_more : (js more : List Journal) (n : ℕ) → n < length js → n < length (js ++ more)
within_more js more n lt = omega (arith, length-append js more)

pub entry_more : (js more : List Journal) (n : ℕ) → HasEntry js n → HasEntry (js ++ more) n
entry_more js more n h = record {
  within = within_more js more n h.within;
  follows = subst (λ (j : Journal). with_entry (journal_before j) (latest j) ≡ j) (sym (journal_stays js more n h.within)) h.follows;
}

pub seats_stay : (js more : List Journal) (ss : List Seated) → AllByRecursion (λ (s : Seated). IsWithin js s.journal) ss → map (seat_of (js ++ more)) ss ≡ map (seat_of js) ss
seats_stay js more ss h = maps_alike (λ (s : Seated). IsWithin js s.journal) (seat_of (js ++ more)) (seat_of js) ss (λ s lt. ap (λ (j : Journal). the_seat s j) (journal_stays js more s.journal lt)) h

pub made_stay : (js more : List Journal) (ds : List Making) → AllByRecursion (λ (d : Making). HasEntry js d.journal) ds → map (commit_made_of (js ++ more)) ds ≡ map (commit_made_of js) ds
made_stay js more ds h = maps_alike (λ (d : Making). HasEntry js d.journal) (commit_made_of (js ++ more)) (commit_made_of js) ds (λ d e. ap (λ (j : Journal). the_made d j) (journal_stays js more d.journal e.within)) h

pub stored_more : (ss : List Seated) (ds : List Making) (js more : List Journal) → AreStored ss ds js → AreStored ss ds (js ++ more)
stored_more ss ds js more h = record {
  seats = all_so (λ (s : Seated). IsWithin js s.journal) (λ (s : Seated). IsWithin (js ++ more) s.journal) ss (λ s lt. within_more js more s.journal lt) h.seats;
  made = all_so (λ (d : Making). HasEntry js d.journal) (λ (d : Making). HasEntry (js ++ more) d.journal) ds (λ d e. entry_more js more d.journal e) h.made;
}

pub worlds_stay : (es : List Entrant) (ss : List Seated) (ms : List (List ℕ)) (ds : List Making) (js more : List Journal) → AreStored ss ds js → world_of es ss ms ds (js ++ more) ≡ world_of es ss ms ds js
worlds_stay es ss ms ds js more h = let a = seats_stay js more ss h.seats in let b = made_stay js more ds h.made in cc

-- ---- look-ups

pub seat_found : (js : List Journal) (ss : List Seated) (k : ℕ) (s : Seated) → k < length ss → s ≡ get_or ss k s → slice_get (map (seat_of js) ss) k ≡ Some (seat_of js s)
seat_found js ss k s lt e = slice_get-map (seat_of js) ss k ∙ ap (λ (o : Option Seated). option_map (seat_of js) o) (slice_get_read ss (length ss) k s refl lt e)

pub seat_missing : (js : List Journal) (ss : List Seated) (k : ℕ) → length ss ≤ k → slice_get (map (seat_of js) ss) k ≡ None
seat_missing js ss k le = slice_get-map (seat_of js) ss k ∙ ap (λ (o : Option Seated). option_map (seat_of js) o) (slice_get_past ss k le)

pub seat_set : (js : List Journal) (ss : List Seated) (k : ℕ) (s : Seated) → map (seat_of js) (slice_set ss k s) ≡ slice_set (map (seat_of js) ss) k (seat_of js s)
seat_set js ss k s = map-set (seat_of js) ss k s

pub unchanged : {X : Type 0} (xs : List X) (k : ℕ) (x : X) → x ≡ get_or xs k x → slice_set xs k x ≡ xs
unchanged xs k x h = ap (slice_set xs k) h ∙ set-get_or xs k x
