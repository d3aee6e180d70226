-- Which numbers each call of a member and of a candidate can be refused with, besides `OutOfMemory`.
use Rattle.std.specs.Prelude.{◌≡◌, ℕ, ◌||◌, Bool, true, List, [], ◌∷◌, ◌++◌, Err}
use Rattle.mls_leaf.specs.WholeLaws.{is_input_fault}
use Rattle.mls_leaf.specs.declared.extension.Extension.{Extension}
use Rattle.mls_leaf.specs.declared.key_package.KeyPackage.{KeyPackage}
use Rattle.mls_types.specs.declared.commit.ProposalOrRef.{ProposalOrRef}
use Rattle.mls_suite.specs.Crypto.{Crypto}
use Rattle.mls_tree_model.specs.Sets.{has}
use Rattle.mls_model.specs.Member.{Member}
use Rattle.mls_model.specs.Verdict.{verdict}
use Rattle.mls_model.specs.Candidate.{Candidate, new_candidate, create_group}
use Rattle.mls_model.specs.Propose.{propose_add, propose_update, propose_remove, propose_extensions}
use Rattle.mls_model.specs.Make.{make}
use Rattle.mls_model.specs.Join.{join_verdict}

-- ---- parts

-- the checks of an add answer these numbers: those of a KeyPackage (RFC 9420, 12.1.1)
abbrev pub add_numbers : List ℕ
add_numbers = 36 ∷ 50 ∷ 51 ∷ 52 ∷ 55 ∷ 56 ∷ 57 ∷ []

-- the checks of an update answer these numbers: those of a leaf that replaces another (RFC 9420, 12.1.2)
abbrev pub update_numbers : List ℕ
update_numbers = 22 ∷ 36 ∷ 50 ∷ 51 ∷ 52 ∷ 53 ∷ 54 ∷ []

-- the check of a remove answers this number: no member is at the leaf (RFC 9420, 12.1.3)
abbrev pub remove_numbers : List ℕ
remove_numbers = 22 ∷ []

-- the checks of a proposal of any kind answer these numbers
abbrev pub proposal_numbers : List ℕ
proposal_numbers = 22 ∷ 36 ∷ 50 ∷ 51 ∷ 52 ∷ 53 ∷ 54 ∷ 55 ∷ 56 ∷ 57 ∷ []

-- the checks of all that is public of a commit answer these numbers (RFC 9420, 12.4.2)
abbrev pub body_numbers : List ℕ
body_numbers = 21 ∷ 24 ∷ 25 ∷ 26 ∷ 30 ∷ 31 ∷ 61 ∷ 62 ∷ 63 ∷ 64 ∷ 68 ∷ proposal_numbers

-- the checks of a message's framing answer these numbers (RFC 9420, 6)
abbrev pub framing_numbers : List ℕ
framing_numbers = 42 ∷ 43 ∷ 44 ∷ 45 ∷ 46 ∷ 47 ∷ 48 ∷ []

-- ---- calls of a member

-- bytes that are processed are refused with these numbers, beside those of decoding
abbrev pub verdict_numbers : List ℕ
verdict_numbers = 32 ∷ 33 ∷ 34 ∷ 40 ∷ 41 ∷ 60 ∷ 65 ∷ 66 ∷ framing_numbers ++ body_numbers

-- a verdict refuses bytes with these and those of decoding alone
abbrev pub VerdictNumbers : Type 0
VerdictNumbers = (c : Crypto) (m : Member) (bytes : List ℕ) (n : ℕ) →
    verdict c m bytes ≡ Err n → (is_input_fault n || has verdict_numbers n) ≡ true

-- a call that proposes an add is refused with these numbers
abbrev pub propose_add_numbers : List ℕ
propose_add_numbers = 6 ∷ 40 ∷ 49 ∷ add_numbers

-- it is refused with these alone
abbrev pub AddNumbers : Type 0
AddNumbers = (c : Crypto) (m : Member) (offered : KeyPackage) (n : ℕ) →
    propose_add c m offered ≡ Err n → has propose_add_numbers n ≡ true

-- a call that proposes an update is refused with these numbers
abbrev pub propose_update_numbers : List ℕ
propose_update_numbers = 6 ∷ 40 ∷ 49 ∷ update_numbers

-- it is refused with these alone
abbrev pub UpdateNumbers : Type 0
UpdateNumbers = (c : Crypto) (m : Member) (seed : List ℕ) (n : ℕ) →
    propose_update c m seed ≡ Err n → has propose_update_numbers n ≡ true

-- a call that proposes a remove is refused with these numbers
abbrev pub propose_remove_numbers : List ℕ
propose_remove_numbers = 6 ∷ 40 ∷ 49 ∷ remove_numbers

-- it is refused with these alone
abbrev pub RemoveNumbers : Type 0
RemoveNumbers = (c : Crypto) (m : Member) (leaf : ℕ) (n : ℕ) →
    propose_remove c m leaf ≡ Err n → has propose_remove_numbers n ≡ true

-- a call that proposes extensions is refused with these numbers
abbrev pub propose_extensions_numbers : List ℕ
propose_extensions_numbers = 6 ∷ 40 ∷ 49 ∷ []

-- it is refused with these alone
abbrev pub ExtensionsNumbers : Type 0
ExtensionsNumbers = (c : Crypto) (m : Member) (list : List Extension) (n : ℕ) →
    propose_extensions c m list ≡ Err n → has propose_extensions_numbers n ≡ true

-- a commit call is refused with these numbers
abbrev pub make_numbers : List ℕ
make_numbers = 6 ∷ 40 ∷ 60 ∷ 66 ∷ 67 ∷ body_numbers

-- it is refused with these alone
abbrev pub MakeNumbers : Type 0
MakeNumbers = (c : Crypto) (m : Member) (list : List ProposalOrRef) (wants_path : Bool) (seed : List ℕ) (n : ℕ) →
    make c m list wants_path seed ≡ Err n → has make_numbers n ≡ true

-- a candidate is refused with these numbers: its message is too large, or its init key is its leaf's key
abbrev pub CandidateNumbers : Type 0
CandidateNumbers = (c : Crypto) (identity seed : List ℕ) (n : ℕ) →
    new_candidate c identity seed ≡ Err n → has (6 ∷ 57 ∷ []) n ≡ true

-- a group is refused with this number: its context is too large
abbrev pub CreateNumbers : Type 0
CreateNumbers = (c : Crypto) (k : Candidate) (group seed : List ℕ) (n : ℕ) →
    create_group c k group seed ≡ Err n → has (6 ∷ []) n ≡ true

-- a join is refused with these numbers, beside those of decoding
abbrev pub join_numbers : List ℕ
join_numbers =
    20 ∷ 21 ∷ 23 ∷ 24 ∷ 25 ∷ 26 ∷ 34 ∷ 35 ∷ 36 ∷ 51 ∷ 52 ∷ 65
    ∷ 70 ∷ 71 ∷ 72 ∷ 73 ∷ 74 ∷ 75 ∷ 76 ∷ 77 ∷ 78 ∷ 79 ∷ 80 ∷ []

-- it is refused with these and those of decoding alone
abbrev pub JoinNumbers : Type 0
JoinNumbers = (c : Crypto) (k : Candidate) (bytes : List ℕ) (n : ℕ) →
    join_verdict c k bytes ≡ Err n → (is_input_fault n || has join_numbers n) ≡ true
