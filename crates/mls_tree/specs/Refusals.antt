-- Refusals that are decided before anything grows.
use Rattle.std.specs.Prelude.{◌≡◌, ℕ, Result, Err, IsErrAnd, true, is_some, List, None, MatchResult}
use Rattle.std.specs.Global.{Vec}
use Rattle.mls_wire.specs.Checks.{Passed, passed, Answers, DoesAs, AnswersOutright}
use Rattle.mls_leaf.specs.declared.leaf.LeafNode.{LeafNode}
use Rattle.mls_tree_model.specs.Term.{Term, leaf_of}
use Rattle.mls_tree.specs.declared.error.TreeError.{TreeError}
use Rattle.mls_tree.specs.declared.error.TreeError.TheVariants.{NoSuchLeaf}
use Rattle.mls_tree.specs.Faults.{number_of}
use Rattle.mls_tree.specs.Paths.{merge_answer, ChangesWhole}
use Rattle.mls_tree.specs.Tree.{Tree, term, add_answer, update_answer, remove_answer}

-- Where the definition refuses, the call does with the same number, also when an allocation fails.
abbrev pub RefusesOutright : {A B E : Type 0} → (E → ℕ) → Result A ℕ → Result B E → Type 0
RefusesOutright number defined result = (n : ℕ) → defined ≡ Err n → IsErrAnd result (λ e. number e ≡ n)

-- A call without a value of its own passes some checks, or refuses with the number of the first that fails.
abbrev pub AnswersChecks : {B : Type 0} → Result Passed ℕ → Result B TreeError → Type 0
AnswersChecks defined result = Answers (λ _. passed) number_of defined result

-- A call that takes no memory passes some checks, or refuses with the number of the first that fails.
abbrev pub PassesOutright : {B : Type 0} → Result Passed ℕ → Result B TreeError → Type 0
PassesOutright defined result = AnswersOutright (λ _. passed) number_of defined result

-- A call answers the list that is defined, or refuses with the number of the definition.
abbrev pub AnswersList : {A : Type 0} → Result (List A) ℕ → Result (Vec A) TreeError → Type 0
AnswersList {A} defined result = Answers (λ (v : Vec A). v.items) number_of defined result

-- A call refuses where the definition does, with the same number, also when an allocation fails.
abbrev pub Refuses : {A B : Type 0} → Result A ℕ → Result B TreeError → Type 0
Refuses defined result = RefusesOutright number_of defined result

-- A call refuses a leaf index at which no member is, and no other.
abbrev pub AnswersMember : Term → ℕ → Result (Unit {0}) TreeError → Type 0
AnswersMember t i result =
    MatchResult result (λ _. is_some (leaf_of t i) ≡ true) (λ e. (e ≡ NoSuchLeaf) × (leaf_of t i ≡ None))

-- An edit does what its definition says: it adds a leaf, and answers the leaf index.
abbrev pub AnswersAdd : LeafNode → Tree → Tree → Result ℕ TreeError → Type 0
AnswersAdd leaf old new result = DoesAs (λ i. i) number_of (add_answer (term old) leaf) (term old) (term new) result

-- An edit does what its definition says: it updates leaf i.
abbrev pub AnswersUpdate : ℕ → LeafNode → Tree → Tree → Result (Unit {0}) TreeError → Type 0
AnswersUpdate i leaf old new result = ChangesWhole number_of (update_answer (term old) i leaf) (term old) (term new) result

-- An edit does what its definition says: it removes member i.
abbrev pub AnswersRemove : ℕ → Tree → Tree → Result (Unit {0}) TreeError → Type 0
AnswersRemove i old new result = ChangesWhole number_of (remove_answer (term old) i) (term old) (term new) result

-- An edit does what its definition says: it merges a path of leaf i.
abbrev pub AnswersMerge : ℕ → LeafNode → List (List ℕ) → Tree → Tree → Result (Unit {0}) TreeError → Type 0
AnswersMerge i leaf keys old new result =
    ChangesWhole number_of (merge_answer (term old) i leaf keys) (term old) (term new) result
