-- The first parent that fails a test: there is one just where not all pass.
use Rattle.std.proofs.Common.{◌≡◌, ℕ, ◌+◌, ◌*◌, Bool, true, false, not, ◌&&◌, if◌then◌else◌, Option, Some, None, is_some, refl, sym, ◌∙◌, ap}
use Rattle.std.proofs.lemmas.Bool.{cond-true, cond-false}
use Rattle.mls_leaf.specs.Parent.{Parent}
use Rattle.mls_tree_model.specs.Term.{Term, Leaf, Branch, width, size}
use Rattle.mls_tree_model.specs.Edits.{or_else}
use Rattle.mls_tree_model.specs.Lists.{parent_passes, all_parents, lists_here}
use Rattle.mls_tree_model.specs.Hashes.{is_parent_hash_valid}
use Rattle.mls_tree_model.specs.Good.{has_good_lists, has_good_hashes}
use Rattle.mls_tree_model.specs.FirstParents.{first_parent, first_wrong_list, first_wrong_hash}
use Rattle.mls_tree_model.proofs.Equations.{all_parents_leaf, all_parents_branch}

-- ---- numbers that may not be there

or_told : (x y : Option ℕ) (b c : Bool) → is_some x ≡ not b → is_some y ≡ not c → is_some (or_else x y) ≡ not (b && c)
or_told None y true c e f = f
or_told None y false c e f = absurd cc
or_told (Some n) y true c e f = absurd cc
or_told (Some n) y false c e f = refl

own_told : (n : ℕ) (b : Bool) → is_some (if b then None else Some n) ≡ not b
own_told n true = refl
own_told n false = refl

turned : (a b c : Bool) → (b && (c && a)) ≡ (a && (b && c))
turned true true true = refl
turned true true false = refl
turned true false c = refl
turned false true true = refl
turned false true false = refl
turned false false c = refl

none_told : (x : Option ℕ) → is_some x ≡ false → x ≡ None
none_told None e = refl
none_told (Some n) e = absurd cc

all_told : (b : Bool) → false ≡ not b → b ≡ true
all_told true e = refl
all_told false e = absurd cc

-- ---- of any test

module _ (q : ℕ → Parent → Term → Term → Bool) where
  pub first_told : (b : ℕ) (t : Term) → is_some (first_parent q b t) ≡ not (all_parents q b t)
  unfolding first_parent
  first_told b (Leaf v) = ap not (sym (all_parents_leaf b v q))
  first_told b (Branch c l r) =
      or_told (first_parent q b l) _ (all_parents q b l) (all_parents q (b + width l) r && parent_passes q b c l r) (first_told b l)
      (or_told (first_parent q (b + width l) r) _ (all_parents q (b + width l) r) (parent_passes q b c l r) (first_told (b + width l) r) (own_told (2 * b + size l) (parent_passes q b c l r)))
      ∙ ap not (turned (parent_passes q b c l r) (all_parents q b l) (all_parents q (b + width l) r) ∙ sym (all_parents_branch b c l r q))

  pub none_first : (b : ℕ) (t : Term) → all_parents q b t ≡ true → first_parent q b t ≡ None
  none_first b t all = none_told (first_parent q b t) (first_told b t ∙ ap not all)

  pub all_pass : (b : ℕ) (t : Term) → first_parent q b t ≡ None → all_parents q b t ≡ true
  all_pass b t none = all_told (all_parents q b t) (sym (ap is_some none) ∙ first_told b t)

-- ---- lists and hashes of a whole tree

pub lists_told : (t : Term) → is_some (first_wrong_list t) ≡ not (has_good_lists t)
unfolding has_good_lists
lists_told t = first_told lists_here 0 t

pub all_lists : (t : Term) → has_good_lists t ≡ true → all_parents lists_here 0 t ≡ true
unfolding has_good_lists
all_lists t lists = lists

pub hash_by_lists : (t : Term) → has_good_lists t ≡ true → first_wrong_hash t ≡ first_parent is_parent_hash_valid 0 t
hash_by_lists t lists = cond-true (has_good_lists t) (first_parent is_parent_hash_valid 0 t) None lists

pub hash_unasked : (t : Term) → has_good_lists t ≡ false → first_wrong_hash t ≡ None
hash_unasked t lists = cond-false (has_good_lists t) (first_parent is_parent_hash_valid 0 t) None lists

pub hashes_told : (t : Term) → has_good_lists t ≡ true → is_some (first_wrong_hash t) ≡ not (has_good_hashes t)
unfolding has_good_hashes
hashes_told t lists = ap is_some (hash_by_lists t lists) ∙ first_told is_parent_hash_valid 0 t
