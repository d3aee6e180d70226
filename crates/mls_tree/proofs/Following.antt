-- A path that was prepared for a tree, and what following it leaves.
use Rattle.std.proofs.Common.{◌≡◌, ℕ, zero, suc, ◌+◌, Bool, true, false, cond, List, [], ◌∷◌, ◌++◌, length, map, take, drop, reverse, Option, Some, None, is_some, Ok, refl, sym, ◌∙◌, ap, subst, arith, inl, inr, lt-ltb, le-ltb}
use Rattle.std.proofs.lemmas.Bool.{true≢false, and_parts, cases_lt, cond-true, cond-false}
use Rattle.std.proofs.lemmas.List.{length-reverse, reverse-reverse}
use Rattle.std.specs.Option.{option_to_list}
use Rattle.mls_wire.specs.Checks.{passed}
use Rattle.mls_leaf.specs.Parent.{Parent}
use Rattle.mls_leaf.specs.declared.leaf.LeafNode.{LeafNode}
use Rattle.mls_leaf.specs.declared.node.Node.{Node}
use Rattle.mls_tree_model.specs.Term.{Term, Leaf, Branch, width, size, is_perfect, leaf_of}
use Rattle.mls_tree_model.specs.Hashes.{tree_hash}
use Rattle.mls_tree_model.specs.Resolution.{is_reached}
use Rattle.mls_tree_model.specs.Way.{path_length}
use Rattle.mls_tree_model.specs.Merge.{new_parent, keys_below, keys_beside, hash_beside, merge, merge_path}
use Rattle.mls_tree_model.proofs.Equations.{path_length_leaf, path_length_left, path_length_right}
use Rattle.mls_tree_model.specs.Arrays.{term_of}
use Rattle.mls_tree_model.proofs.ArrayLaws.{perfect-term_of}
use Rattle.mls_tree_model.proofs.PlaceLaws.{perfect-merge}
use Rattle.mls_tree_hash.specs.Counter.{counted}
use Rattle.mls_tree_array.specs.KeptHashes.{hashes_of, Keeps, drop_hashes, cold_places}
use Rattle.mls_tree_cells.specs.Cells.{CellList}
use Rattle.mls_tree_array.proofs.KeptLaws.{hashes_of_branch, length-hashes_of, left_part, right_part, dropped_leaf, dropped_left, dropped_right, cold-append, cold-cons, none_cold}
use Rattle.mls_tree_array.specs.Merging.{path_parents}
use Rattle.mls_tree_array.specs.WayHashes.{way_hashes, HashesMerged, KeepsOnWay}
use Rattle.mls_tree_array.proofs.ChangeLaws.{differ_merge}
use Rattle.mls_tree_array.proofs.WayHashLaws.{length-way_hashes}
use Rattle.mls_tree.specs.Tree.{Tree, term}
use Rattle.mls_tree.specs.ColdNodes.{Warms, Chills}
use Rattle.mls_tree.specs.Paths.{merge_checks, merge_answer}
use Rattle.mls_tree.specs.PreparedPath.{Prepared, IsPrepared, IsFor, keys_of, merged_by}
use Rattle.mls_tree.proofs.Steps.{merge_steps}
use Rattle.mls_tree.proofs.Pathing.{merge_is, merge_done}
use Rattle.mls_tree.specs.ArrayEdits.{EditsLeaf}
use Rattle.mls_tree.proofs.CellEdits.{kept_after}
use Rattle.mls_tree.proofs.Chilling.{tree_of, warmed, edited_in}

-- ---- the keys of a path's parents

abbrev parent_keys : List Parent → List (List ℕ)
parent_keys ps = map (λ (p : Parent). p.encryption_key) ps

keys_with : (e : Bool) (ks : List (List ℕ)) (h : List ℕ) (ps : List Parent) (n : ℕ) → length ks ≡ cond e 1 0 + n → (length (keys_below e ks) ≡ n → parent_keys ps ≡ keys_below e ks) → parent_keys (option_to_list (new_parent e ks h) ++ ps) ≡ ks
keys_with false ks h ps n long rest = rest (omega arith)
keys_with true [] h ps n long rest = absurd (omega arith)
keys_with true (k ∷ ks) h ps n long rest = ap (λ ys. k ∷ ys) (rest (omega arith))

none_left : (ks : List (List ℕ)) → length ks ≡ 0 → [] ≡ ks
none_left [] long = refl
none_left (k ∷ ks) long = absurd (omega arith)

keys_of_parents : (b : ℕ) (t : Term) (i : ℕ) (ks : List (List ℕ)) (h : List ℕ) → length ks ≡ path_length b t i → parent_keys (path_parents b t i ks h) ≡ ks
unfolding path_parents
keys_of_parents b (Leaf v) i ks h long = none_left ks (long ∙ path_length_leaf b v i)
keys_of_parents b (Branch c l r) i ks h long = elim (cases_lt i (b + width l)) [
  | inl lt ↦
      ap parent_keys (cond-true _ _ _ (lt-ltb i (b + width l) lt))
      ∙ keys_with (is_reached (b + width l) r) ks h _ (path_length b l i) (long ∙ path_length_left b c l r i lt) (keys_of_parents b l i (keys_beside (b + width l) r ks) (hash_beside (b + width l) r ks h))
  | inr ge ↦
      ap parent_keys (cond-false _ _ _ (le-ltb i (b + width l) ge))
      ∙ keys_with (is_reached b l) ks h _ (path_length (b + width l) r i) (long ∙ path_length_right b c l r i ge) (keys_of_parents (b + width l) r i (keys_beside b l ks) (hash_beside b l ks h))
]

path_keys : (t : Term) (i : ℕ) (x : LeafNode) (keys : List (List ℕ)) → merge_checks t i x keys ≡ Ok passed → reverse (parent_keys (path_parents 0 t i (reverse keys) [])) ≡ keys
path_keys t i x keys fit =
    ap reverse (keys_of_parents 0 t i (reverse keys) [] (length-reverse keys ∙ (merge_steps t i x keys _ (merge_done t i x keys fit)).path.count))
    ∙ reverse-reverse keys

-- the keys of a path with these parents
abbrev pub path_of : List Parent → List (List ℕ)
path_of ps = reverse (parent_keys ps)

-- ---- prepared

made_by : (t : Term) (i : ℕ) (x : LeafNode) (keys : List (List ℕ)) (p : Prepared) → IsPrepared t i x keys p → merged_by t p ≡ merge_path t i x keys
unfolding merged_by
made_by t i x keys p is =
    ap (λ j. merge_path t j p.leaf (keys_of p)) is.index
    ∙ ap (λ y. merge_path t i y (keys_of p)) is.leaf
    ∙ ap (merge_path t i x) is.given

-- a path by its own index, leaf and keys
own_path : (t : Term) (i : ℕ) (x : LeafNode) (keys : List (List ℕ)) (p : Prepared) → IsPrepared t i x keys p → IsFor t p
own_path t i x keys p is =
    subst (λ ks. IsPrepared t p.index p.leaf ks p) (sym is.given)
    (subst (λ j. IsPrepared t j p.leaf keys p) (sym is.index)
    (subst (λ y. IsPrepared t i y keys p) (sym is.leaf) is))

pub is_prepared : (t : Term) (i : ℕ) (x y : LeafNode) (keys : List (List ℕ)) (ps : List Parent) (ws : List (List ℕ)) (root : List ℕ) → merge_checks t i x keys ≡ Ok passed → ps ≡ path_parents 0 t i (reverse keys) [] → HashesMerged 0 t i ps x root [] ws → y ≡ x →
    let p : Prepared = record { index = i; leaf = y; parents = ps; hashes = ws; root = root } in IsFor t p × (merged_by t p ≡ merge_path t i x keys)
is_prepared t i x y keys ps ws root fit made merged same =
    let both = merged (reverse keys) [] made in
    let p : Prepared = record { index = i; leaf = y; parents = ps; hashes = ws; root = root } in
    let is : IsPrepared t i x keys p = record {
      index = refl;
      leaf = same;
      given = ap (λ qs. reverse (parent_keys qs)) made ∙ path_keys t i x keys fit;
      answer = merge_done t i x keys fit;
      parents = made;
      hashes = both.1 ∙ ap (λ u. way_hashes 0 u i) (merge_is t i x keys);
      root = both.0 ∙ ap (tree_hash 0) (merge_is t i x keys);
    } in
    (own_path t i x keys p is, made_by t i x keys p is)

pub merged_answer : (t : Term) (p : Prepared) → IsFor t p → merge_answer t p.index p.leaf (keys_of p) ≡ Ok (merged_by t p)
unfolding merged_by
merged_answer t p is = is.answer

pub root_of : (t : Term) (p : Prepared) → IsFor t p → p.root ≡ tree_hash 0 (merged_by t p)
unfolding merged_by
root_of t p is = is.root

-- the path as the code holds it, and the tree
pub for_inside : (s t : Tree) (p q : Prepared) → s ≡ t → p ≡ q → IsFor (term t) q → IsFor (term s) p
for_inside s t p q view lent is = subst (λ v. IsFor (term v) p) (sym view) (subst (λ r. IsFor (term t) r) (sym lent) is)

pub tree_after : (s t : Tree) (p q : Prepared) → s ≡ t → p ≡ q → (u : Term) → u ≡ merge_path (term s) p.index p.leaf (keys_of p) → u ≡ merged_by (term t) q
unfolding merged_by
tree_after s t p q view lent u made = made ∙ ap (λ v. merge_path (term v) p.index p.leaf (keys_of p)) view ∙ ap (λ (r : Prepared). merge_path (term t) r.index r.leaf (keys_of r)) lent

-- ---- followed

module _ (h i : ℕ) (xs : List (Option Node)) (x : LeafNode) (keys : List (List ℕ)) (ws : List (List ℕ)) (is : ws ≡ way_hashes 0 (merge_path (term_of h xs) i x keys) i) where
  by_merge : ws ≡ way_hashes 0 (merge 0 (term_of h xs) i (reverse keys) [] x) i
  by_merge = is ∙ ap (λ t. way_hashes 0 t i) (sym (merge_is (term_of h xs) i x keys))

  pub path_long : length ws ≡ suc h
  path_long =
      ap length by_merge
      ∙ length-way_hashes h 0 (merge 0 (term_of h xs) i (reverse keys) [] x) i (perfect-merge h 0 (term_of h xs) i (reverse keys) [] x (perfect-term_of h xs))

  pub hashes_after : (old mid new : CellList) → old.hashes ≡ hashes_of 0 (term_of h xs) → EditsLeaf h i (term_of h xs) (merge_path (term_of h xs) i x keys) old mid → KeepsOnWay h 0 i ws mid new → new.hashes ≡ hashes_of 0 (term_of h new.nodes)
  hashes_after old mid new all edited keeps =
      kept_after h i (term_of h xs) (merge 0 (term_of h xs) i (reverse keys) [] x) old mid (perfect-term_of h xs) edited.hashes ws new (differ_merge 0 (term_of h xs) i (reverse keys) [] x) all by_merge keeps
      ∙ ap (hashes_of 0) (merge_is (term_of h xs) i x keys ∙ sym edited.nodes.term ∙ ap (λ c. term_of h c.nodes) (sym keeps))

-- ---- what it costs: an edit, and the hashes of the nodes that it makes cold

one_cold : (hs : List (Option (List ℕ))) → cold_places (None ∷ hs) ≡ 1 + cold_places hs
one_cold hs = cold-cons None hs

-- an edit of a leaf, whose tree was warmed then
abbrev pub IsWarmedEdit : ℕ → Tree → Tree → Type 0
IsWarmedEdit i old new = (between : Tree) × Chills (term old) i old between × (term between ≡ term new) × Warms between new

-- where all were kept, those of a leaf and of the nodes over it are missing after an edit
way_cold : (h b : ℕ) (t : Term) (i : ℕ) → is_perfect h t ≡ true → cold_places (drop_hashes b t i (hashes_of b t)) ≡ suc h
unfolding is_perfect
way_cold zero b (Leaf v) i p = ap cold_places (dropped_leaf b v i (hashes_of b (Leaf v))) ∙ one_cold []
way_cold (suc h) b (Leaf v) i p = absurd (true≢false (sym p))
way_cold zero b (Branch c l r) i p = absurd (true≢false (sym p))
way_cold (suc h) b (Branch c l r) i p =
    let sides = and_parts (is_perfect h l) (is_perfect h r) p in
    let hs : List (Option (List ℕ)) = hashes_of b (Branch c l r) in
    let top : Option (List ℕ) = Some (tree_hash b (Branch c l r)) in
    let front : take (size l) hs ≡ hashes_of b l = ap (take (size l)) (hashes_of_branch b c l r) ∙ left_part (hashes_of b l) (hashes_of (b + width l) r) top (size l) (length-hashes_of b l) in
    let back : drop (suc (size l)) hs ≡ hashes_of (b + width l) r = ap (drop (suc (size l))) (hashes_of_branch b c l r) ∙ right_part (hashes_of b l) (hashes_of (b + width l) r) top (size l) (length-hashes_of b l) in
    elim (cases_lt i (b + width l)) [
      | inl lt ↦
          let new : List (Option (List ℕ)) = drop_hashes b l i (take (size l) hs) in
          let below : cold_places new ≡ suc h = ap (λ ys. cold_places (drop_hashes b l i ys)) front ∙ way_cold h b l i sides.0 in
          let beside : cold_places (drop (suc (size l)) hs) ≡ 0 = ap cold_places back ∙ none_cold (b + width l) r in
          let own = one_cold (drop (suc (size l)) hs) in
          ap cold_places (dropped_left b c l r i hs lt) ∙ cold-append new (None ∷ drop (suc (size l)) hs) ∙ omega arith
      | inr ge ↦
          let new : List (Option (List ℕ)) = drop_hashes (b + width l) r i (drop (suc (size l)) hs) in
          let below : cold_places new ≡ suc h = ap (λ ys. cold_places (drop_hashes (b + width l) r i ys)) back ∙ way_cold h (b + width l) r i sides.1 in
          let beside : cold_places (take (size l) hs) ≡ 0 = ap cold_places front ∙ none_cold b l in
          let own = one_cold new in
          ap cold_places (dropped_right b c l r i hs ge) ∙ cold-append (take (size l) hs) (None ∷ new) ∙ omega arith
    ]

module _ (h i : ℕ) (xs : List (Option Node)) (hs : List (Option (List ℕ))) (d : ℕ) (old : Tree) (view : tree_of h xs hs d ≡ old) (keeps : Keeps 0 (term_of h xs) hs) (is_member : is_some (leaf_of (term old) i) ≡ true) where
  pub followed_in : (ys : List (Option Node)) (gs : List (Option (List ℕ))) (e : ℕ) → hs ≡ hashes_of 0 (term_of h xs) → gs ≡ hashes_of 0 (term_of h ys) → e ≡ counted d (suc h) → IsWarmedEdit i old (tree_of h ys gs e)
  followed_in ys gs e all now more =
      let cold : List (Option (List ℕ)) = drop_hashes 0 (term_of h xs) i hs in
      let many : cold_places cold ≡ suc h = ap (λ ks. cold_places (drop_hashes 0 (term_of h xs) i ks)) all ∙ way_cold h 0 (term_of h xs) i (perfect-term_of h xs) in (
        tree_of h ys cold d,
        edited_in h i xs hs d old view keeps is_member ys cold d refl refl,
        refl,
        warmed (tree_of h ys cold d) (tree_of h ys gs e) now (more ∙ ap (counted d) (sym many)),
      )
