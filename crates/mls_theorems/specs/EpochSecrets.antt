-- Members that were reached along one homemade journal have one epoch secret.
use Rattle.std.specs.Prelude.{◌≡◌, ℕ, true, List, Some, slice_get}
use Rattle.mls_suite.specs.Crypto.{Crypto, Lawful}
use Rattle.mls_model.specs.declared.origin.Origin.{Origin}
use Rattle.mls_model.specs.Invariant.{IsRecorded}
use Rattle.mls_model.specs.HomemadeTest.{is_homemade_from}
use Rattle.mls_model.specs.Journal.{Entry, CommitMade}
use Rattle.mls_model.specs.Lineage.{IsReached}
use Rattle.mls_model.specs.Member.{Member}
use Rattle.mls_model.specs.JournalState.{Creations}
use Rattle.mls_model.specs.World.{World}

-- ---- along a journal

-- the makers of commits stood where their records say
abbrev pub AllRecorded : Crypto → Creations → World → Type 0
AllRecorded c creations w = (n : ℕ) (d : CommitMade) → slice_get w.commits n ≡ Some d → IsRecorded c creations w d

abbrev pub OneSecret : Crypto → Creations → World → Origin → List Entry → Type 0
OneSecret c creations w origin es = (m n : Member) → IsReached c creations w.commits origin es m →
    IsReached c creations w.commits origin es n → m.epoch_secret ≡ n.epoch_secret

-- Two members that were reached along one homemade journal have one epoch secret. The proof goes along the journal and
-- not along time: a maker may have stood at a journal later than who followed its commit.
abbrev pub SameSecret : Type 0
SameSecret = (c : Crypto) → Lawful c → (creations : Creations) (w : World) → AllRecorded c creations w →
    (origin : Origin) (es : List Entry) → is_homemade_from w.commits origin es ≡ true → OneSecret c creations w origin es
