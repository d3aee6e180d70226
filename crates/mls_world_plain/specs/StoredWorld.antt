-- How a world is stored: its journals stand in one list, and members and records of commits have numbers there.
use Rattle.std.specs.Prelude.{◌≡◌, ℕ, ◌<◌, List, [], ◌∷◌, ◌++◌, map, drop, get_or, length, Option}
use Rattle.std.specs.List.{AllByRecursion}
use Rattle.mls_model.specs.declared.origin.Origin.TheVariants as from
use Rattle.mls_model.specs.Member.{Member}
use Rattle.mls_model.specs.Journal.{Entry, Journal, CommitMade, new_journal, with_entry}
use Rattle.mls_model.specs.World.{Entrant, Seat, World}

-- ---- journals

-- journal n
unfoldable pub journal_at : List Journal → ℕ → Journal
journal_at js n = get_or js n (new_journal (from.Creation 0))

-- a journal before its latest entry
abbrev pub journal_before : Journal → Journal
journal_before j = record { origin = j.origin; entries = drop 1 j.entries }

-- the first of some entries, an empty one where there are none
abbrev pub first_of : List Entry → Entry
first_of [] = record { commit = []; named_messages = [] }
first_of (e ∷ es) = e

-- the latest entry of a journal
abbrev pub latest : Journal → Entry
latest j = first_of j.entries

-- journal n is there
abbrev pub IsWithin : List Journal → ℕ → Type 0
IsWithin js n = n < length js

-- journal n is there and has an entry
pub record HasEntry (js : List Journal) (n : ℕ) : Type 0 where
  pub within : n < length js
  pub follows : with_entry (journal_before (journal_at js n)) (latest (journal_at js n)) ≡ journal_at js n

-- journals, the number of the latest that goes on from each, where one does, and for how many more there is room
pub record JournalStore : Type 0 where
  pub list : List Journal
  pub followers : List (Option ℕ)
  pub room : ℕ

-- other journals stand behind these
pub record AreMore (old new : List Journal) : Type 0 where
  pub more : List Journal
  pub are : new ≡ old ++ more

-- ---- members, and commits that were made

-- a member, and the number of its journal
pub record Seated : Type 0 where
  pub member : Member
  pub journal : ℕ

-- what is recorded of a commit call; the journal's latest entry is the commit
pub record Making : Type 0 where
  pub maker : ℕ
  pub journal : ℕ
  pub epoch_secret : List ℕ
  pub adds : List (List ℕ)
  pub welcome : Option (ℕ × List ℕ)

-- a member with the journal that stands under its number
abbrev pub seat_of : List Journal → Seated → Seat
seat_of js s = record { member = s.member; journal = journal_at js s.journal }

-- the record of a commit call, with its entry and the journal before that
abbrev pub commit_made_of : List Journal → Making → CommitMade
commit_made_of js d = record {
  maker = d.maker;
  journal = journal_before (journal_at js d.journal);
  entry = latest (journal_at js d.journal);
  epoch_secret = d.epoch_secret;
  adds = d.adds;
  welcome = d.welcome;
}

-- ---- worlds

-- the world that these parts stand for
abbrev pub world_of : List Entrant → List Seated → List (List ℕ) → List Making → List Journal → World
world_of entrants seats messages made js = record { entrants = entrants; seats = map (seat_of js) seats; messages = messages; commits = map (commit_made_of js) made }

-- members stand at journals, and records at journals with an entry
pub record AreStored (ss : List Seated) (ds : List Making) (js : List Journal) : Type 0 where
  pub seats : AllByRecursion (λ (s : Seated). IsWithin js s.journal) ss
  pub made : AllByRecursion (λ (d : Making). HasEntry js d.journal) ds
