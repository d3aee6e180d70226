-- The committer's climb is the chain, and its keys are exact in the tree that it makes.
use Rattle.std.proofs.Common.{◌≡◌, ℕ, zero, suc, ◌+◌, ◌*◌, ◌<◌, Bool, true, false, List, [], ◌∷◌, ◌++◌, map, filter, length, reverse, Some, if◌then◌else◌, refl, sym, ap, ◌∙◌, inl, inr, arith}
use Rattle.std.proofs.lemmas.Bool.{cases_lt}
use Rattle.std.proofs.lemmas.List.{reverse-append}
use Rattle.mls_leaf.specs.declared.leaf.LeafNode.{LeafNode}
use Rattle.mls_tree_model.specs.Term.{Term, Leaf, Branch, width, size, leaf_at}
use Rattle.mls_tree_model.specs.Sets.{has}
use Rattle.mls_tree_model.specs.Way.{Step, step_at, way, is_filtered, filtered_way, path_length}
use Rattle.mls_tree_model.specs.Merge.{merge, new_parent, keys_below, hash_below, parent_beside, keys_beside, hash_beside}
use Rattle.mls_tree_model.proofs.Equations.{way_left, way_right, merge_left, merge_right, leaf_at_left, leaf_at_right}
use Rattle.mls_tree_model.proofs.ShapeLaws.{size_from_width}
use Rattle.mls_tree_model.proofs.MergeLaws.{width-merge}
use Rattle.mls_suite.specs.Crypto.{Crypto}
use Rattle.mls_treekem_model.specs.Chain.{chain, path_secrets, node_key, node_public, chain_keys}
use Rattle.mls_treekem_model.specs.Keys.{HoldsDueKey, AreKeysAlong}
use Rattle.mls_treekem_model.specs.Make.{one_if, filtered_count, secret_above, key_if, made_keys, climb_make, climb_past, more_if, path_keys}
use Rattle.mls_treekem_model.specs.Laws.{CountIsLength, KeysAreChain, KeysOfSecrets, MakeExact, MakingClimbs}

pub making_climbs : MakingClimbs
unfolding filtered_count made_keys chain
making_climbs c s ss start sk = by_test (is_filtered s)
  where
    by_test : (t : Bool) → record { secret = chain start (one_if t (filtered_count ss)); keys = key_if t (node_key c (secret_above ss start)) ∷ made_keys c ss start sk } ≡ climb_past c t (climb_make c ss start sk)
    by_test true = refl
    by_test false = refl

keys_past : (c : Crypto) (start : List ℕ) (t : Bool) (ks : List (List ℕ)) (n : ℕ) → ks ≡ chain_keys c start n → more_if t (node_public c (chain start n)) ks ≡ chain_keys c start (one_if t n)
unfolding chain_keys
keys_past c start true ks n k = ap (λ zs. node_public c (chain start n) ∷ zs) k
keys_past c start false ks n k = k

pub keys_are_chain : KeysAreChain
unfolding path_keys chain_keys filtered_count
keys_are_chain c [] start = refl
keys_are_chain c (s ∷ ss) start = keys_past c start (is_filtered s) (path_keys c ss start) (filtered_count ss) (keys_are_chain c ss start)

pub map-append : {A B : Type 0} (f : A → B) (xs ys : List A) → map f (xs ++ ys) ≡ map f xs ++ map f ys
map-append f [] ys = refl
map-append f (x ∷ xs) ys = ap (λ zs. f x ∷ zs) (map-append f xs ys)

pub keys_of_secrets : KeysOfSecrets
unfolding path_secrets chain_keys
keys_of_secrets c start zero = refl
keys_of_secrets c start (suc k) =
    ap reverse (map-append (node_public c) (path_secrets start k) (chain start k ∷ []))
    ∙ reverse-append (map (node_public c) (path_secrets start k)) (node_public c (chain start k) ∷ [])
    ∙ ap (λ zs. node_public c (chain start k) ∷ zs) (keys_of_secrets c start k)

pub count_filtered : (ss : List Step) → filtered_count ss ≡ length (filter is_filtered ss)
unfolding filtered_count
count_filtered [] = refl
count_filtered (s ∷ ss) = by_test (is_filtered s) (count_filtered ss)
  where
    by_test : (t : Bool) → filtered_count ss ≡ length (filter is_filtered ss) → one_if t (filtered_count ss) ≡ length (if t then s ∷ filter is_filtered ss else filter is_filtered ss)
    by_test true e = ap suc e
    by_test false e = e

pub count_is_length : CountIsLength
unfolding path_length filtered_way
count_is_length b t i = count_filtered (way b t i)

-- ---- the committer's way after the merge

abbrev pub merged_step : Step → List (List ℕ) → List ℕ → Step
merged_step s ks h = step_at (parent_beside s.first s.other ks h) s.node s.first s.other

unfoldable pub merged_way : List Step → List (List ℕ) → List ℕ → List Step
merged_way [] ks h = []
merged_way (s ∷ ss) ks h = merged_step s ks h ∷ merged_way ss (keys_beside s.first s.other ks) (hash_beside s.first s.other ks h)

pub way_merge : (b : ℕ) (t : Term) (i : ℕ) (ks : List (List ℕ)) (h : List ℕ) (x : LeafNode) → way b (merge b t i ks h x) i ≡ merged_way (way b t i) ks h
way_merge b (Leaf v) i ks h x = unfold way merge merged_way in refl
way_merge b (Branch p l r) i ks h x = elim (cases_lt i (b + width l)) [
  | inl li ↦
      let ks' : List (List ℕ) = keys_beside (b + width l) r ks in
      let h' : List ℕ = hash_beside (b + width l) r ks h in
      let w = width-merge b l i ks' h' x in
      let z = size_from_width (merge b l i ks' h' x) l w in
      let k : i < b + width (merge b l i ks' h' x) = omega arith in
      rw (merge_left b p l r i ks h x li, way_left b (parent_beside (b + width l) r ks h) (merge b l i ks' h' x) r i k, w, z, way_left b p l r i li)
      (ap (λ ss. step_at (parent_beside (b + width l) r ks h) (2 * b + size l) (b + width l) r ∷ ss) (way_merge b l i ks' h' x) ∙ sym (more (step_at p (2 * b + size l) (b + width l) r) (way b l i)))
  | inr ri ↦
      let ks' : List (List ℕ) = keys_beside b l ks in
      let h' : List ℕ = hash_beside b l ks h in
      rw (merge_right b p l r i ks h x ri, way_right b (parent_beside b l ks h) l (merge (b + width l) r i ks' h' x) i ri, way_right b p l r i ri)
      (ap (λ ss. step_at (parent_beside b l ks h) (2 * b + size l) b l ∷ ss) (way_merge (b + width l) r i ks' h' x) ∙ sym (more (step_at p (2 * b + size l) b l) (way (b + width l) r i)))
]
  where
    more : (s : Step) (ss : List Step) → merged_way (s ∷ ss) ks h ≡ merged_step s ks h ∷ merged_way ss (keys_beside s.first s.other ks) (hash_beside s.first s.other ks h)
    more s ss = unfold merged_way in refl

pub leaf_merge : (b : ℕ) (t : Term) (i : ℕ) (ks : List (List ℕ)) (h : List ℕ) (x : LeafNode) → leaf_at b (merge b t i ks h x) i ≡ Some x
leaf_merge b (Leaf v) i ks h x = unfold leaf_at merge in refl
leaf_merge b (Branch p l r) i ks h x = elim (cases_lt i (b + width l)) [
  | inl li ↦
      let ks' : List (List ℕ) = keys_beside (b + width l) r ks in
      let h' : List ℕ = hash_beside (b + width l) r ks h in
      let w = width-merge b l i ks' h' x in
      rw (merge_left b p l r i ks h x li) (leaf_at_left b (parent_beside (b + width l) r ks h) (merge b l i ks' h' x) r i (omega arith) ∙ leaf_merge b l i ks' h' x)
  | inr ri ↦
      let ks' : List (List ℕ) = keys_beside b l ks in
      let h' : List ℕ = hash_beside b l ks h in
      rw (merge_right b p l r i ks h x ri) (leaf_at_right b (parent_beside b l ks h) l (merge (b + width l) r i ks' h' x) i ri ∙ leaf_merge (b + width l) r i ks' h' x)
]

along_make : (c : Crypto) (j : ℕ) (x : LeafNode) (start sk : List ℕ) → c.public sk ≡ x.encryption_key → (ss : List Step) (h : List ℕ) → AreKeysAlong c (HoldsDueKey c j) (merged_way ss (path_keys c ss start) h) (Some x) (made_keys c ss start sk)
unfolding merged_way AreKeysAlong path_keys made_keys
along_make c j x start sk e [] h = e
along_make c j x start sk e (s ∷ ss) h = by_test (is_filtered s) (along_make c j x start sk e ss)
  where
    keys : List (List ℕ)
    keys = path_keys c ss start

    by_test : (t : Bool) → ((g : List ℕ) → AreKeysAlong c (HoldsDueKey c j) (merged_way ss keys g) (Some x) (made_keys c ss start sk)) →
        AreKeysAlong c (HoldsDueKey c j)
        (step_at (new_parent t (more_if t (node_public c (secret_above ss start)) keys) h) s.node s.first s.other
        ∷ merged_way ss (keys_below t (more_if t (node_public c (secret_above ss start)) keys)) (hash_below (new_parent t (more_if t (node_public c (secret_above ss start)) keys) h) s.first s.other h))
        (Some x) (key_if t (node_key c (secret_above ss start)) ∷ made_keys c ss start sk)
    by_test true rec = (unfold has in refl, rec _)
    by_test false rec = (tt, rec _)

pub make_exact : MakeExact
make_exact c b t i h x start sk e =
    rw (way_merge b t i (path_keys c (way b t i) start) h x, leaf_merge b t i (path_keys c (way b t i) start) h x) (along_make c i x start sk e (way b t i) h)
