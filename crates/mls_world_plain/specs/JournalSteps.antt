-- The journals that a list of steps stands for, and what a store of them does.
use Rattle.std.specs.Prelude.{◌≡◌, ℕ, suc, ◌-◌, ◌<◌, List, [], ◌∷◌, ◌++◌, length, map, slice_get, slice_set, Option, None, Some, option_map}
use Rattle.std.specs.Global.{Vec}
use Rattle.std.specs.Vec.{vec_len, vec_capacity}
use Rattle.mls_model.specs.Journal.{Entry, Journal, new_journal, with_entry}
use Rattle.mls_world_plain.specs.declared.entry.JournalStep.{JournalStep}
use Rattle.mls_world_plain.specs.declared.entry.JournalStep.TheVariants.{Begun, Followed}
use Rattle.mls_world_plain.specs.declared.entry.StoredStep.{StoredStep}
use Rattle.mls_world_plain.specs.StoredWorld.{journal_before, latest, journal_at, JournalStore}

-- ---- steps

-- the journal of a step behind these
abbrev pub journal_of : List Journal → JournalStep → Journal
journal_of js (Begun origin) = new_journal origin
journal_of js (Followed n entry) = with_entry (journal_at js n) entry

-- these journals, and those of the steps behind them
unfoldable pub journals_of : List Journal → List JournalStep → List Journal
journals_of js [] = js
journals_of js (s ∷ ss) = journals_of (js ++ (journal_of js s ∷ [])) ss

-- a step with this number begins, or goes on from one that stands before it
abbrev pub GoesBack : ℕ → JournalStep → Type 0
GoesBack n (Begun origin) = Unit {0}
GoesBack n (Followed before entry) = before < n

-- each step begins, or goes on from one that stands before it; the first has this number
unfoldable pub GoBack : ℕ → List JournalStep → Type 0
GoBack n [] = Unit {0}
GoBack n (s ∷ ss) = GoesBack n s × GoBack (suc n) ss

-- journal n is that of a step
pub record HasStep (js : List Journal) (n : ℕ) (s : JournalStep) : Type 0 where
  pub is : journal_at js n ≡ journal_of js s
  pub back : GoesBack n s

-- the number of the journal before the latest entry of journal n, none where that has no entry
abbrev pub IsBefore : List Journal → ℕ → Option ℕ → Type 0
IsBefore js n None = slice_get (journal_at js n).entries 0 ≡ None
IsBefore js n (Some b) = (b < n) × (journal_at js b ≡ journal_before (journal_at js n)) × (slice_get (journal_at js n).entries 0 ≡ Some (latest (journal_at js n)))

-- the journal before its latest entry, where it has one
abbrev pub earlier : Journal → Option Journal
earlier j = option_map (λ (e : Entry). journal_before j) (slice_get j.entries 0)

-- ---- stores

-- journal n goes on from journal b: it is that with one more entry
pub record GoesOn (js : List Journal) (b n : ℕ) : Type 0 where
  pub within : n < length js
  pub entry : Entry
  pub is : journal_at js n ≡ with_entry (journal_at js b) entry

-- each follower goes on from its journal
abbrev pub GoOn : List Journal → List (Option ℕ) → Type 0
GoOn js followers = (b n : ℕ) → slice_get followers b ≡ Some (Some n) → GoesOn js b n

-- the steps that are stored
abbrev pub steps_of : List StoredStep → List JournalStep
steps_of ss = map (λ (s : StoredStep). s.step) ss

-- the followers that are stored beside them
abbrev pub followers_of : List StoredStep → List (Option ℕ)
followers_of ss = map (λ (s : StoredStep). s.follower) ss

-- the store that these steps are
abbrev pub store_of : Vec StoredStep → JournalStore
store_of v = record { list = journals_of [] (steps_of v.items); followers = followers_of v.items; room = vec_capacity v - vec_len v }

-- each step goes on from one that stands before it, and its follower from it
pub record AreSteps (ss : List StoredStep) : Type 0 where
  pub back : GoBack 0 (steps_of ss)
  pub on : GoOn (journals_of [] (steps_of ss)) (followers_of ss)

-- ---- what a store does

-- the latest that goes on from journal b is journal n, by this entry: who follows the entry from there shares it
pub record Shares (s : JournalStore) (b : ℕ) (e : Entry) (n : ℕ) : Type 0 where
  pub follower : slice_get s.followers b ≡ Some (Some n)
  pub entry : slice_get (journal_at s.list n).entries 0 ≡ Some e

-- the journal that is shared there, if one is
abbrev pub AnswersShared : JournalStore → ℕ → Entry → Option ℕ → Type 0
AnswersShared s b e (Some n) = Shares s b e n × GoesOn s.list b n
AnswersShared s b e None = (n : ℕ) → Shares s b e n → ⊥

-- the journals and their followers are as before
abbrev pub SameJournals : JournalStore → JournalStore → Type 0
SameJournals old new = (new.list ≡ old.list) × (new.followers ≡ old.followers)

-- these, and journal n with one more entry behind them
abbrev pub with_followed : List Journal → ℕ → Entry → List Journal
with_followed js n entry = js ++ (with_entry (journal_at js n) entry ∷ [])

-- journal b with one more entry is added, and is the latest that goes on from it
pub record AddsFollower (old : JournalStore) (b : ℕ) (e : Entry) (new : JournalStore) : Type 0 where
  pub list : new.list ≡ with_followed old.list b e
  pub followers : new.followers ≡ slice_set (old.followers ++ (None ∷ [])) b (Some (length old.list))

-- an entry is followed from journal b, to journal n: to the one that is shared there, else to one that is added
pub record Follows (old : JournalStore) (b : ℕ) (e : Entry) (new : JournalStore) (n : ℕ) : Type 0 where
  pub shares : (k : ℕ) → Shares old b e k → (n ≡ k) × SameJournals old new
  pub adds : ((k : ℕ) → Shares old b e k → ⊥) → (n ≡ length old.list) × AddsFollower old b e new
