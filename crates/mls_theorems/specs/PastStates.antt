-- The states that a member passed along its journal.
use Rattle.std.specs.Prelude.{List}
use Rattle.mls_suite.specs.Crypto.{Crypto}
use Rattle.mls_model.specs.declared.origin.Origin.{Origin}
use Rattle.mls_model.specs.Journal.{Entry, CommitMade}
use Rattle.mls_model.specs.Lineage.{IsReached}
use Rattle.mls_model.specs.Member.{Member}
use Rattle.mls_model.specs.JournalState.{Creations}
use Rattle.mls_theorems.specs.Journals.{StandsAtJournal}
use Rattle.mls_theorems.specs.Lists.{Grows}

-- a state that was reached in a world was reached in each that the world becomes
abbrev pub PastGrows : Type 0
PastGrows = (c : Crypto) (creations creations' : Creations) (made made' : List CommitMade) →
    Grows creations creations' → Grows made made' → (origin : Origin) (es : List Entry) (m : Member) →
    IsReached c creations made origin es m → IsReached c creations' made' origin es m

-- ---- where a state that was reached stands

-- a member that was reached along a journal stands where the journal leads
abbrev pub PastAlong : Type 0
PastAlong = (c : Crypto) (creations : Creations) (made : List CommitMade) (origin : Origin) (es : List Entry)
    (m : Member) → IsReached c creations made origin es m → StandsAtJournal c creations origin es m
