-- Laws: the encryption keys of a merged tree are those of the leaf, of the path, and of the cells beside the way.
use Rattle.std.proofs.Common.{◌≡◌, ℕ, ◌+◌, Bool, true, false, cond, List, [], ◌∷◌, ◌++◌, length, reverse, Option, Some, None, refl, sym, ◌∙◌, ap, arith, inl, inr}
use Rattle.std.proofs.lemmas.Bool.{true≢false, cases_Bool, cases_lt}
use Rattle.std.proofs.lemmas.List.{length-reverse}
use Rattle.mls_leaf.specs.Parent.{Parent}
use Rattle.mls_leaf.specs.declared.leaf.LeafNode.{LeafNode}
use Rattle.mls_leaf.specs.declared.node.Node.{Node}
use Rattle.mls_tree_model.specs.Term.{Term, Leaf, Branch, width}
use Rattle.mls_tree_model.specs.Sets.{same_bytes, count, is_distinct}
use Rattle.mls_tree_model.specs.Resolution.{is_reached}
use Rattle.mls_tree_model.specs.Way.{path_length}
use Rattle.mls_tree_model.specs.Edits.{put}
use Rattle.mls_tree_model.specs.Merge.{new_parent, keys_below, merge, merge_path, keys_beside, hash_beside, parent_beside}
use Rattle.mls_tree_model.specs.Keys.{gather, parent_key, encryption_keys}
use Rattle.mls_tree_model.specs.Arrays.{term_of, in_order}
use Rattle.mls_tree_model.proofs.Equations.{put_leaf, put_left, put_right, merge_leaf, merge_left, merge_right, path_length_leaf, path_length_left, path_length_right}
use Rattle.mls_tree_model.proofs.CountLaws.{bytes_true, count-append, distinct_at, distinct_from}
use Rattle.mls_tree_model.proofs.MergeLaws.{bytes_refl}
use Rattle.mls_tree_model.proofs.PathLaws.{reverse-cons}
use Rattle.mls_tree_index.specs.declared.kind.KeyKind.TheVariants.{Encryption}
use Rattle.mls_tree_index.specs.Keys.{key_of, keys_of}
use Rattle.mls_tree_index.specs.BlankedCells.{cells_without}
use Rattle.mls_tree_index.proofs.CountLaws.{same_gathered, none_blank}
use Rattle.mls_tree_array.specs.Standing.{Stands}
use Rattle.mls_tree.specs.Way.{way_numbers}
use Rattle.mls_tree.proofs.WayIndexes.{removed_key}
use Rattle.mls_tree.proofs.KindLaws.{keys_in_order}

-- ---- lists with the same keys as often

distinct_if : (xs ys : List (List ℕ)) → ((k : List ℕ) → count same_bytes k xs ≡ count same_bytes k ys) → is_distinct same_bytes xs ≡ true → is_distinct same_bytes ys ≡ true
distinct_if xs ys counts h =
    distinct_from same_bytes bytes_refl ys (λ k. let few = distinct_at same_bytes bytes_true xs h k in let same = counts k in omega arith)

pub distinct_alike : (xs ys : List (List ℕ)) → ((k : List ℕ) → count same_bytes k xs ≡ count same_bytes k ys) → is_distinct same_bytes xs ≡ is_distinct same_bytes ys
distinct_alike xs ys counts = elim (cases_Bool (is_distinct same_bytes xs)) [
  | inl first ↦ first ∙ sym (distinct_if xs ys counts first)
  | inr twice ↦ elim (cases_Bool (is_distinct same_bytes ys)) [
    | inl second ↦ absurd (true≢false (sym (distinct_if ys xs (λ k. sym (counts k)) second) ∙ twice))
    | inr other ↦ twice ∙ sym other
  ]
]

-- ---- how often a merged tree has a key

-- how often a tree has it
abbrev often : List ℕ → Term → ℕ
often k t = count same_bytes k (encryption_keys t)

module _ (k : List ℕ) where
  often-leaf : (x : LeafNode) → often k (Leaf (Some x)) ≡ count same_bytes k (x.encryption_key ∷ [])
  unfolding gather
  often-leaf x = refl

  often-blank : often k (Leaf None) ≡ 0
  unfolding gather count
  often-blank = refl

  often-branch : (c : Option Parent) (l r : Term) → often k (Branch c l r) ≡ often k l + (count same_bytes k (parent_key c) + often k r)
  unfolding gather
  often-branch c l r =
      count-append same_bytes k (encryption_keys l) (parent_key c ++ encryption_keys r)
      ∙ ap (λ n. often k l + n) (count-append same_bytes k (parent_key c) (encryption_keys r))

  none_counted : count same_bytes k (parent_key None) ≡ 0
  unfolding count
  none_counted = refl

  -- each parent of the path takes one key, where there are enough
  step : (e : Bool) (ks : List (List ℕ)) (h : List ℕ) (n : ℕ) → length ks ≡ cond e 1 0 + n → (count same_bytes k (parent_key (new_parent e ks h)) + count same_bytes k (keys_below e ks) ≡ count same_bytes k ks) × (length (keys_below e ks) ≡ n)
  unfolding count
  step false ks h n long = (omega arith, omega arith)
  step true [] h n long = absurd (omega arith)
  step true (key ∷ ks) h n long = (omega arith, omega arith)

  no_keys : (ks : List (List ℕ)) → length ks ≡ 0 → count same_bytes k ks ≡ 0
  unfolding count
  no_keys [] e = refl
  no_keys (y ∷ ys) e = absurd (omega arith)

  pub often-merged : (b : ℕ) (t : Term) (i : ℕ) (ks : List (List ℕ)) (h : List ℕ) (x : LeafNode) → length ks ≡ path_length b t i → often k (merge b t i ks h x) ≡ count same_bytes k (x.encryption_key ∷ []) + (count same_bytes k ks + often k (put b t i None))
  often-merged b (Leaf v) i ks h x long =
      let none : count same_bytes k ks ≡ 0 = no_keys ks (long ∙ path_length_leaf b v i) in
      let blank = often-blank in
      let leaf = often-leaf x in
      rw (merge_leaf b v i ks h x, put_leaf b v i None) (omega arith)
  often-merged b (Branch c l r) i ks h x long =
      let none = none_counted in
      elim (cases_lt i (b + width l)) [
        | inl lt ↦
            let s = step (is_reached (b + width l) r) ks h (path_length b l i) (long ∙ path_length_left b c l r i lt) in
            let rest = often-merged b l i (keys_beside (b + width l) r ks) (hash_beside (b + width l) r ks h) x s.1 in
            let merged = often-branch (parent_beside (b + width l) r ks h) (merge b l i (keys_beside (b + width l) r ks) (hash_beside (b + width l) r ks h) x) r in
            let blanked = often-branch None (put b l i None) r in
            let counted = s.0 in
            rw (merge_left b c l r i ks h x lt, put_left b c l r i None lt) (omega arith)
        | inr ge ↦
            let s = step (is_reached b l) ks h (path_length (b + width l) r i) (long ∙ path_length_right b c l r i ge) in
            let rest = often-merged (b + width l) r i (keys_beside b l ks) (hash_beside b l ks h) x s.1 in
            let merged = often-branch (parent_beside b l ks h) l (merge (b + width l) r i (keys_beside b l ks) (hash_beside b l ks h) x) in
            let blanked = often-branch None l (put (b + width l) r i None) in
            let counted = s.0 in
            rw (merge_right b c l r i ks h x ge, put_right b c l r i None ge) (omega arith)
      ]

  count-reverse : (xs : List (List ℕ)) → count same_bytes k (reverse xs) ≡ count same_bytes k xs
  count-reverse [] = refl
  count-reverse (x ∷ xs) =
      let turned = ap (count same_bytes k) (reverse-cons x xs) in
      let sum = count-append same_bytes k (reverse xs) (x ∷ []) in
      let rest = count-reverse xs in
      let whole = count-append same_bytes k (x ∷ []) xs in
      omega arith

-- ---- of the cells

module _ (h i : ℕ) (xs : List (Option Node)) (stands : Stands h xs) where
  -- the keys beside the way are those of the tree without the leaf
  keys_beside_way : keys_of Encryption (cells_without 0 (way_numbers h i) xs) ≡ encryption_keys (put 0 (term_of h xs) i None)
  keys_beside_way =
      same_gathered (key_of Encryption) (none_blank Encryption) (cells_without 0 (way_numbers h i) xs) (in_order (put 0 (term_of h xs) i None)) (removed_key h i xs stands Encryption)
      ∙ keys_in_order (put 0 (term_of h xs) i None)

  pub merged_distinct : (x : LeafNode) (keys : List (List ℕ)) → path_length 0 (term_of h xs) i ≡ length keys → is_distinct same_bytes (encryption_keys (merge_path (term_of h xs) i x keys)) ≡ is_distinct same_bytes (x.encryption_key ∷ (keys ++ keys_of Encryption (cells_without 0 (way_numbers h i) xs)))
  unfolding merge_path
  merged_distinct x keys long = distinct_alike _ _ (λ k.
      let merged = often-merged k 0 (term_of h xs) i (reverse keys) [] x (length-reverse keys ∙ sym long) in
      let turned = count-reverse k keys in
      let beside = ap (count same_bytes k) keys_beside_way in
      let first = count-append same_bytes k (x.encryption_key ∷ []) (keys ++ keys_of Encryption (cells_without 0 (way_numbers h i) xs)) in
      let more = count-append same_bytes k keys (keys_of Encryption (cells_without 0 (way_numbers h i) xs)) in
      omega arith)
