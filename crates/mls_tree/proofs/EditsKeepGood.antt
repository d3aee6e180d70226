-- What the edits of a tree keep.
use Rattle.std.proofs.Common.{◌≡◌, ℕ, ◌≤◌, true, List, [], None, is_some, Ok, sym, ◌∙◌, ap, subst, arith}
use Rattle.mls_leaf.specs.declared.leaf.LeafNode.{LeafNode}
use Rattle.mls_tree_model.specs.Term.{Term, width, has_leaf, leaf_of}
use Rattle.mls_tree_model.specs.Edits.{put, add, place_in}
use Rattle.mls_tree_model.specs.Good.{IsGood, IsSound, AreNew, AreFit, has_distinct_keys, has_distinct_clients}
use Rattle.mls_tree_model.proofs.Equations.{update_is}
use Rattle.mls_tree_model.proofs.SoundLaws.{sound_update, sound_remove, sound_add, good_of_sound}
use Rattle.mls_tree_model.proofs.KeptLaws.{good_update, good_remove, good_add}
use Rattle.mls_tree_model.proofs.PathLaws.{good_merge_path, sound_merge_path}
use Rattle.mls_tree_model.proofs.ClientLaws.{distinct_clients-merge_path}
use Rattle.mls_tree.specs.Tree.{max_leaves, add_answer, update_answer, remove_answer}
use Rattle.mls_tree.specs.Paths.{merge_answer}
use Rattle.mls_tree.specs.EditsKeepGood.{KeepsGood, KeepsSound, MergesGood}
use Rattle.mls_tree.proofs.Steps.{update_steps, remove_steps, add_steps, merge_steps}

module _ (t u : Term) (i : ℕ) where
  pub update_good : (x : LeafNode) → update_answer t i x ≡ Ok u → KeepsGood (λ rules. AreNew rules i x [] (put 0 t i None)) t u
  update_good x e rules new g =
      let s = update_steps t i x u e in
      subst (IsGood rules) (update_is t i x ∙ sym s.tree) (good_update rules t i x g s.inside new)

  pub update_sound : (x : LeafNode) → update_answer t i x ≡ Ok u → KeepsSound (λ rules. AreFit rules i x []) t u
  update_sound x e rules new g =
      let s = update_steps t i x u e in
      subst (IsSound rules) (update_is t i x ∙ sym s.tree) (sound_update rules t i x g s.inside new)

  pub remove_good : remove_answer t i ≡ Ok u → KeepsGood (λ rules. has_leaf (put 0 t i None) ≡ true) t u
  remove_good e rules left g =
      let s = remove_steps t i u e in
      subst (IsGood rules) (sym s.tree) (good_remove rules t i g s.inside left)

  pub remove_sound : remove_answer t i ≡ Ok u → KeepsSound (λ rules. has_leaf (put 0 t i None) ≡ true) t u
  remove_sound e rules left g =
      let s = remove_steps t i u e in
      subst (IsSound rules) (sym s.tree) (sound_remove rules t i g s.inside left)

module _ (t u : Term) (x : LeafNode) (k : ℕ) (e : add_answer t x ≡ Ok (k, u)) where
  narrow : (limit : ℕ) → max_leaves ≤ limit → width (add t x) ≤ limit
  narrow limit room = let s = add_steps t x k u e in let w = s.within in omega arith

  pub add_good : KeepsGood (λ rules. (max_leaves ≤ rules.limit) × AreNew rules (place_in t) x [] t) t u
  add_good rules new g = subst (IsGood rules) (sym (add_steps t x k u e).tree) (good_add rules t x g (narrow rules.limit new.0) new.1)

  pub add_sound : KeepsSound (λ rules. (max_leaves ≤ rules.limit) × AreFit rules (place_in t) x []) t u
  add_sound rules new g = subst (IsSound rules) (sym (add_steps t x k u e).tree) (sound_add rules t x g (narrow rules.limit new.0) new.1)

module _ (t u : Term) (i : ℕ) (x : LeafNode) (keys : List (List ℕ)) (e : merge_answer t i x keys ≡ Ok u) where
  merge_sound : KeepsSound (λ rules. AreFit rules i x keys) t u
  merge_sound rules new g =
      let s = merge_steps t i x keys u e in
      subst (IsSound rules) (sym s.tree) (sound_merge_path rules t i x keys g s.inside s.path.count s.hash new)

  pub merge_checked : MergesGood i x keys t u
  merge_checked rules before was same new apart g =
      let s = merge_steps t i x keys u e in
      let keys_apart = ap has_distinct_keys s.tree ∙ s.apart in
      let clients_apart = ap has_distinct_clients s.tree ∙ distinct_clients-merge_path t i x before keys was same ∙ apart in
      good_of_sound rules u (merge_sound rules new g) keys_apart clients_apart

  pub merge_new : KeepsGood (λ rules. AreNew rules i x keys (put 0 t i None)) t u
  merge_new rules new g =
      let s = merge_steps t i x keys u e in
      subst (IsGood rules) (sym s.tree) (good_merge_path rules t i x keys g s.inside s.path.count s.hash new)

  pub merge_member : is_some (leaf_of t i) ≡ true
  merge_member = ap is_some (merge_steps t i x keys u e).path.member
