-- What the calls of a public tree answer, case by case.
use Rattle.std.proofs.Common.{◌≡◌, ℕ, true, List, Option, Some, None, is_some, Ok, Err, refl, sym}
use Rattle.std.proofs.lemmas.Bool.{true≢false}
use Rattle.mls_leaf.specs.declared.leaf.LeafNode.{LeafNode}
use Rattle.mls_tree_model.specs.Term.{Term, leaf_of}
use Rattle.mls_tree_model.specs.Edits.{update, remove}
use Rattle.mls_tree_model.specs.Way.{filtered_path, ciphertext_counts}
use Rattle.mls_tree.specs.Tree.{path_answer, update_answer, remove_answer}
use Rattle.mls_tree.specs.Paths.{counts_answer}

module _ (t : Term) (i : ℕ) where
  pub path_refused : leaf_of t i ≡ None → path_answer t i ≡ Err 22
  unfolding path_answer
  path_refused none = rw none refl

  pub path_found : is_some (leaf_of t i) ≡ true → path_answer t i ≡ Ok (filtered_path 0 t i)
  unfolding path_answer
  path_found some = go (leaf_of t i) some refl
    where
      go : (o : Option LeafNode) → is_some o ≡ true → leaf_of t i ≡ o → path_answer t i ≡ Ok (filtered_path 0 t i)
      go None none e = absurd (true≢false (sym none))
      go (Some v) some e = rw e refl

  pub counts_refused : (added : List ℕ) → leaf_of t i ≡ None → counts_answer t i added ≡ Err 22
  unfolding counts_answer
  counts_refused added none = rw none refl

  pub counts_found : (added : List ℕ) → is_some (leaf_of t i) ≡ true → counts_answer t i added ≡ Ok (ciphertext_counts 0 t i added)
  unfolding counts_answer
  counts_found added some = go (leaf_of t i) some refl
    where
      go : (o : Option LeafNode) → is_some o ≡ true → leaf_of t i ≡ o → counts_answer t i added ≡ Ok (ciphertext_counts 0 t i added)
      go None none e = absurd (true≢false (sym none))
      go (Some v) some e = rw e refl

  pub remove_refused : leaf_of t i ≡ None → remove_answer t i ≡ Err 22
  unfolding remove_answer
  remove_refused none = rw none refl

  pub remove_done : is_some (leaf_of t i) ≡ true → remove_answer t i ≡ Ok (remove t i)
  unfolding remove_answer
  remove_done some = go (leaf_of t i) some refl
    where
      go : (o : Option LeafNode) → is_some o ≡ true → leaf_of t i ≡ o → remove_answer t i ≡ Ok (remove t i)
      go None none e = absurd (true≢false (sym none))
      go (Some v) some e = rw e refl

  pub update_refused : (x : LeafNode) → leaf_of t i ≡ None → update_answer t i x ≡ Err 22
  unfolding update_answer
  update_refused x none = rw none refl

  pub update_done : (x : LeafNode) → is_some (leaf_of t i) ≡ true → update_answer t i x ≡ Ok (update t i x)
  unfolding update_answer
  update_done x some = go (leaf_of t i) some refl
    where
      go : (o : Option LeafNode) → is_some o ≡ true → leaf_of t i ≡ o → update_answer t i x ≡ Ok (update t i x)
      go None none e = absurd (true≢false (sym none))
      go (Some v) some e = rw e refl
