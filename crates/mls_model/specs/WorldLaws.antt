-- Which commit a joiner's Welcome was made by: the first record that has this Welcome and adds the candidate.
use Rattle.std.specs.Prelude.{◌≡◌, ℕ, ◌<◌, List, Some, None, slice_get}
use Rattle.mls_leaf.specs.KeyPackage.{key_package}
use Rattle.mls_model.specs.declared.event.Source.{Source}
use Rattle.mls_model.specs.declared.event.Source.TheVariants.{Given, Message}
use Rattle.mls_model.specs.Candidate.{Candidate}
use Rattle.mls_model.specs.Journal.{CommitMade}
use Rattle.mls_model.specs.World.{commit_for_joiner}

-- ---- records that are for a candidate

-- a source is a Welcome, given by its bytes or by its number
abbrev pub IsSourceOf : Source → ℕ × List ℕ → Type 0
IsSourceOf (Given supplied) welcome = supplied.items ≡ welcome.1
IsSourceOf (Message n) welcome = n ≡ welcome.0

-- a commit made the Welcome that a source is, and adds the candidate's own KeyPackage
pub record IsFor (source : Source) (k : Candidate) (d : CommitMade) : Type 0 where
  pub welcome : ℕ × List ℕ
  pub is_welcome : d.welcome ≡ Some welcome
  pub is_source : IsSourceOf source welcome
  pub place : ℕ
  pub adds : slice_get d.adds place ≡ Some (key_package.spell k.offered)

-- a commit is the first of those that made the source and add the candidate
pub record IsFirstFor (made : List CommitMade) (source : Source) (k : Candidate) (d : CommitMade) : Type 0 where
  pub place : ℕ
  pub is : slice_get made place ≡ Some d
  pub fits : IsFor source k d
  pub before : (i : ℕ) (e : CommitMade) → i < place → slice_get made i ≡ Some e → IsFor source k e → ⊥

-- ---- what is found

-- the record that is found is in the list, has the source and adds the candidate, and none before it does
abbrev pub FoundIsFirst : Type 0
FoundIsFirst = (made : List CommitMade) (source : Source) (k : Candidate) (d : CommitMade) →
    commit_for_joiner made source k ≡ Some d → IsFirstFor made source k d

-- the first such record is found
abbrev pub FirstIsFound : Type 0
FirstIsFound = (made : List CommitMade) (source : Source) (k : Candidate) (d : CommitMade) →
    IsFirstFor made source k d → commit_for_joiner made source k ≡ Some d

-- no record is for the candidate
abbrev pub NoneIsFor : List CommitMade → Source → Candidate → Type 0
NoneIsFor made source k = (i : ℕ) (d : CommitMade) → slice_get made i ≡ Some d → IsFor source k d → ⊥

-- none is found exactly when there is none
abbrev pub NoneIsFound : Type 0
NoneIsFound = (made : List CommitMade) (source : Source) (k : Candidate) → commit_for_joiner made source k ≡ None →
    NoneIsFor made source k

abbrev pub NoneToFind : Type 0
NoneToFind = (made : List CommitMade) (source : Source) (k : Candidate) → NoneIsFor made source k →
    commit_for_joiner made source k ≡ None
