-- The proposals that a commit uses, by what a member keeps and by what stands in an entry.
use Rattle.std.specs.Prelude.{◌≡◌, ℕ, List, Ok, map}
use Rattle.std.specs.List.{AllByRecursion}
use Rattle.mls_leaf.specs.KeyPackage.{key_package}
use Rattle.mls_leaf.specs.declared.key_package.KeyPackage.{KeyPackage}
use Rattle.mls_types.specs.declared.commit.ProposalOrRef.{ProposalOrRef}
use Rattle.mls_suite.specs.Crypto.{Crypto}
use Rattle.mls_model.specs.Agreement.{Keeps}
use Rattle.mls_model.specs.MemberInvariant.{IsGoodKept}
use Rattle.mls_model.specs.Journal.{names_in, adds_in, removes_in}
use Rattle.mls_model.specs.Member.{KeptProposal, Member, find_proposals}
use Rattle.mls_model.specs.Proposals.{adds, removed_leaves}
use Rattle.mls_model.specs.PublicState.{Used}
use Rattle.mls_model.specs.JournalState.{used_by_names}

-- each of a list of kept proposals is good
abbrev pub AreGoodKept : Crypto → Member → List KeptProposal → Type 0
AreGoodKept c m kept = AllByRecursion (IsGoodKept c m) kept

-- ---- a whole list

-- the proposals that a list with held references uses are those that its entry says
abbrev pub UsedByNames : Type 0
UsedByNames = (c : Crypto) (m : Member) (kept : List KeptProposal) (i : ℕ) (list : List ProposalOrRef)
    (names : List (List ℕ)) → AreGoodKept c m kept → Keeps kept list names →
    find_proposals kept i list ≡ used_by_names i list names

-- ---- what is used, by an entry and by another member

abbrev pub UsedByEntry : Type 0
UsedByEntry = (c : Crypto) (m : Member) (kept : List KeptProposal) (i : ℕ) (list : List ProposalOrRef)
    (us : List Used) → AreGoodKept c m kept → find_proposals kept i list ≡ Ok us →
    used_by_names i list (names_in kept list) ≡ Ok us

-- a member that keeps what a maker's list names uses what the maker does
abbrev pub UsedAlike : Type 0
UsedAlike = (c : Crypto) (maker m : Member) (i : ℕ) (list : List ProposalOrRef) (us : List Used) →
    AreGoodKept c maker maker.kept → AreGoodKept c m m.kept →
    Keeps m.kept list (names_in maker.kept list) → find_proposals maker.kept i list ≡ Ok us →
    find_proposals m.kept i list ≡ Ok us

-- ---- whoever commits, the same is removed and added

-- a list uses, for another committer, proposals that remove and add the same
pub record IsUsedAlike (kept : List KeptProposal) (j : ℕ) (list : List ProposalOrRef) (us : List Used) : Type 0 where
  pub used : List Used
  pub is : find_proposals kept j list ≡ Ok used
  pub removes : removed_leaves used ≡ removed_leaves us
  pub adding : adds used ≡ adds us

abbrev pub UsedForOther : Type 0
UsedForOther = (kept : List KeptProposal) (i j : ℕ) (list : List ProposalOrRef) (us : List Used) →
    find_proposals kept i list ≡ Ok us → IsUsedAlike kept j list us

-- the leaves that a list removes are those of what its commit uses
abbrev pub RemovesIn : Type 0
RemovesIn = (kept : List KeptProposal) (i : ℕ) (list : List ProposalOrRef) (us : List Used) →
    find_proposals kept i list ≡ Ok us → removes_in kept list ≡ removed_leaves us

-- the KeyPackages, as bytes, that a list adds are those of what its commit uses
abbrev pub AddsIn : Type 0
AddsIn = (kept : List KeptProposal) (i : ℕ) (list : List ProposalOrRef) (us : List Used) →
    find_proposals kept i list ≡ Ok us → adds_in kept list ≡ map (λ (offered : KeyPackage). key_package.spell offered)
    (adds us)

-- a member that keeps what another's list names uses the same, also where that is a refusal
abbrev pub UsedSame : Type 0
UsedSame = (c : Crypto) (maker m : Member) (i : ℕ) (list : List ProposalOrRef) → AreGoodKept c maker maker.kept →
    AreGoodKept c m m.kept →
    Keeps m.kept list (names_in maker.kept list) → find_proposals m.kept i list ≡ find_proposals maker.kept i list
