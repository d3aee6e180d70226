-- What the calls on a commit's path answer, case by case.
use Rattle.std.proofs.Common.{◌≡◌, ℕ, ◌==◌, Bool, true, false, not, List, [], length, reverse, Option, Some, None, is_some, Ok, Err, refl, sym, ◌∙◌, ap, nat_eq}
use Rattle.std.proofs.lemmas.Bool.{true≢false}
use Rattle.std.specs.Borrow.{Bor}
use Rattle.std.specs.Option.{option_copied}
use Rattle.std.specs.Cmp.Lexicographic.{pointwise}
use Rattle.mls_wire.specs.Checks.{passed}
use Rattle.mls_leaf.specs.declared.leaf.LeafNode.{LeafNode}
use Rattle.mls_leaf.specs.declared.leaf.LeafSource.{LeafSource}
use Rattle.mls_leaf.specs.declared.leaf.LeafSource.TheVariants.{Commit}
use Rattle.mls_tree_model.specs.Node.{source_hash}
use Rattle.mls_tree_model.specs.Sets.{same_bytes, is_distinct}
use Rattle.mls_tree_model.specs.Term.{Term, leaf_of}
use Rattle.mls_tree_model.specs.Way.{path_length}
use Rattle.mls_tree_model.specs.Hashes.{is_some_bytes}
use Rattle.mls_tree_model.specs.Keys.{encryption_keys}
use Rattle.mls_tree_model.specs.Merge.{merge, path_hash, merge_path, path_parent_hash}
use Rattle.mls_tree.specs.Paths.{path_checks, path_hash_answer, merge_checks, merge_answer}
use Rattle.mls_tree_model.proofs.SetLaws.{same-pointwise}

-- ---- whole trees

pub merge_is : (t : Term) (i : ℕ) (x : LeafNode) (keys : List (List ℕ)) → merge 0 t i (reverse keys) [] x ≡ merge_path t i x keys
unfolding merge_path
merge_is t i x keys = refl

pub hash_is : (t : Term) (i : ℕ) (keys : List (List ℕ)) → path_hash 0 t i (reverse keys) [] ≡ path_parent_hash t i keys
unfolding path_parent_hash
hash_is t i keys = refl

pub hash_test : (r : Bool) (a b h g : List ℕ) (s : LeafSource) → r ≡ pointwise nat_eq a b → a ≡ h → b ≡ g → s ≡ Commit h → r ≡ is_some_bytes (source_hash s) g
hash_test r a b h g s is left right commit =
    is
    ∙ ap (λ x. pointwise nat_eq x b) left
    ∙ ap (λ y. pointwise nat_eq h y) right
    ∙ same-pointwise h g
    ∙ sym (ap (λ s. is_some_bytes (source_hash s) g) commit)

-- ---- members

pub lost_leaf : (o : Option (Bor LeafNode)) (r : Bool) → is_some o ≡ not r → r ≡ true → option_copied o ≡ None
lost_leaf None r e k = refl
lost_leaf (Some v) r e k = absurd (true≢false (e ∙ ap not k))

pub found_leaf : (o : Option (Bor LeafNode)) (r : Bool) → is_some o ≡ not r → r ≡ false → is_some (option_copied o) ≡ true
found_leaf None r e k = absurd (true≢false (sym (e ∙ ap not k)))
found_leaf (Some v) r e k = refl

-- ---- checks

module _ (t : Term) (i n : ℕ) where
  pub no_member : leaf_of t i ≡ None → path_checks t i n ≡ Err 22
  unfolding path_checks
  no_member none = rw none refl

  pub wrong_length : is_some (leaf_of t i) ≡ true → (n == path_length 0 t i) ≡ false → path_checks t i n ≡ Err 30
  unfolding path_checks
  wrong_length some other = go (leaf_of t i) some refl
    where
      go : (o : Option LeafNode) → is_some o ≡ true → leaf_of t i ≡ o → path_checks t i n ≡ Err 30
      go None none e = absurd (true≢false (sym none))
      go (Some v) some e = rw (e, other) refl

  pub right_length : is_some (leaf_of t i) ≡ true → (n == path_length 0 t i) ≡ true → path_checks t i n ≡ Ok passed
  unfolding path_checks
  right_length some same = go (leaf_of t i) some refl
    where
      go : (o : Option LeafNode) → is_some o ≡ true → leaf_of t i ≡ o → path_checks t i n ≡ Ok passed
      go None none e = absurd (true≢false (sym none))
      go (Some v) some e = rw (e, same) refl

module _ (t : Term) (i : ℕ) (keys : List (List ℕ)) where
  pub hash_refused : (k : ℕ) → path_checks t i (length keys) ≡ Err k → path_hash_answer t i keys ≡ Err k
  unfolding path_hash_answer
  hash_refused k e = rw e refl

  pub hash_found : path_checks t i (length keys) ≡ Ok passed → path_hash_answer t i keys ≡ Ok (path_parent_hash t i keys)
  unfolding path_hash_answer
  hash_found e = rw e refl

module _ (t : Term) (i : ℕ) (x : LeafNode) (keys : List (List ℕ)) where
  pub merge_unfit : (k : ℕ) → path_checks t i (length keys) ≡ Err k → merge_checks t i x keys ≡ Err k
  unfolding merge_checks
  merge_unfit k e = rw e refl

  pub merge_repeats : path_checks t i (length keys) ≡ Ok passed → is_distinct same_bytes (encryption_keys (merge_path t i x keys)) ≡ false → merge_checks t i x keys ≡ Err 25
  unfolding merge_checks
  merge_repeats e repeats = rw (e, repeats) refl

  pub merge_untied : path_checks t i (length keys) ≡ Ok passed → is_distinct same_bytes (encryption_keys (merge_path t i x keys)) ≡ true → is_some_bytes (source_hash x.source) (path_parent_hash t i keys) ≡ false → merge_checks t i x keys ≡ Err 24
  unfolding merge_checks
  merge_untied e distinct other = rw (e, distinct, other) refl

  pub merge_fit : path_checks t i (length keys) ≡ Ok passed → is_distinct same_bytes (encryption_keys (merge_path t i x keys)) ≡ true → is_some_bytes (source_hash x.source) (path_parent_hash t i keys) ≡ true → merge_checks t i x keys ≡ Ok passed
  unfolding merge_checks
  merge_fit e distinct tied = rw (e, distinct, tied) refl

  pub merge_refused : (k : ℕ) → merge_checks t i x keys ≡ Err k → merge_answer t i x keys ≡ Err k
  unfolding merge_answer
  merge_refused k e = rw e refl

  pub merge_done : merge_checks t i x keys ≡ Ok passed → merge_answer t i x keys ≡ Ok (merge_path t i x keys)
  unfolding merge_answer
  merge_done e = rw e refl
