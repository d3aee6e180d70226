-- Keys of the cells at none of some places, where no two cells have one key.
use Rattle.std.proofs.Common.{◌≡◌, ℕ, zero, suc, ◌≤◌, ◌==◌, true, false, cond, List, [], ◌∷◌, ◌++◌, ◌||◌, Option, Some, None, is_some, refl, sym, ◌∙◌, ap, subst, arith, inl, inr, eq-eqb, eqb-true}
use Rattle.std.proofs.lemmas.Bool.{true≢false, cases_Bool, and_parts}
use Rattle.std.specs.List.{list_any}
use Rattle.std.specs.Option.{option_to_list}
use Rattle.mls_leaf.specs.declared.node.Node.{Node}
use Rattle.mls_tree_model.specs.Sets.{same_bytes, has, count, is_distinct}
use Rattle.mls_tree_index.specs.declared.kind.KeyKind.{KeyKind}
use Rattle.mls_tree_index.specs.Keys.{key_of, key_in, keys_of, is_held}
use Rattle.mls_tree_index.specs.BlankedCells.{cells_without}
use Rattle.mls_tree_index.proofs.ClearedLaws.{key_cleared, key_left}
use Rattle.mls_tree_index.proofs.CountLaws.{none_blank, counted}
use Rattle.mls_tree_index.proofs.StepLaws.{held_at, held_nowhere}

-- ---- below a key, where there is one

count_below : (l : List ℕ) (o : Option (List ℕ)) (xs : List (List ℕ)) → count same_bytes l xs ≤ count same_bytes l (option_to_list o ++ xs)
unfolding count
count_below l None xs = omega arith
count_below l (Some m) xs = omega arith

count_both : (l : List ℕ) (o : Option (List ℕ)) (xs ys : List (List ℕ)) → count same_bytes l xs ≤ count same_bytes l ys → count same_bytes l (option_to_list o ++ xs) ≤ count same_bytes l (option_to_list o ++ ys)
unfolding count
count_both l None xs ys h = h
count_both l (Some m) xs ys h = omega arith

distinct_below : (o : Option (List ℕ)) (xs : List (List ℕ)) → is_distinct same_bytes (option_to_list o ++ xs) ≡ true → is_distinct same_bytes xs ≡ true
unfolding is_distinct
distinct_below None xs h = h
distinct_below (Some m) xs h = (and_parts (count same_bytes m xs == 0) (is_distinct same_bytes xs) h).1

none_more : (m n : ℕ) → m ≤ n → (n == 0) ≡ true → (m == 0) ≡ true
none_more m n le none = let is = eqb-true n 0 none in eq-eqb m 0 (omega arith)

distinct_both : (o : Option (List ℕ)) (xs ys : List (List ℕ)) → ((l : List ℕ) → count same_bytes l xs ≤ count same_bytes l ys) → (is_distinct same_bytes ys ≡ true → is_distinct same_bytes xs ≡ true) → is_distinct same_bytes (option_to_list o ++ ys) ≡ true → is_distinct same_bytes (option_to_list o ++ xs) ≡ true
unfolding is_distinct
distinct_both None xs ys few rest h = rest h
distinct_both (Some m) xs ys few rest h =
    let both = and_parts (count same_bytes m ys == 0) (is_distinct same_bytes ys) h in
    rw (none_more (count same_bytes m xs) (count same_bytes m ys) (few m) both.0) (rest both.1)

-- ---- cells of which some are blanked

module _ (k : KeyKind) (ns : List ℕ) where
  fewer : (b : ℕ) (cs : List (Option Node)) (l : List ℕ) → count same_bytes l (keys_of k (cells_without b ns cs)) ≤ count same_bytes l (keys_of k cs)
  unfolding cells_without
  fewer b [] l = omega arith
  fewer b (c ∷ cs) l =
      let rest = fewer (suc b) cs l in
      elim (cases_Bool (has ns b)) [
        | inl on ↦
            let blank : key_of k (cond (has ns b) None c) ≡ None = ap (λ v. key_of k (cond v None c)) on ∙ none_blank k in
            let more = count_below l (key_of k c) (keys_of k cs) in
            subst (λ o. count same_bytes l (option_to_list o ++ keys_of k (cells_without (suc b) ns cs)) ≤ count same_bytes l (option_to_list (key_of k c) ++ keys_of k cs)) (sym blank) (omega arith)
        | inr out ↦
            let same : key_of k (cond (has ns b) None c) ≡ key_of k c = ap (λ v. key_of k (cond v None c)) out in
            subst (λ o. count same_bytes l (option_to_list o ++ keys_of k (cells_without (suc b) ns cs)) ≤ count same_bytes l (option_to_list (key_of k c) ++ keys_of k cs)) (sym same) (count_both l (key_of k c) _ _ rest)
      ]

  distinct_from : (b : ℕ) (cs : List (Option Node)) → is_distinct same_bytes (keys_of k cs) ≡ true → is_distinct same_bytes (keys_of k (cells_without b ns cs)) ≡ true
  unfolding cells_without
  distinct_from b [] h = h
  distinct_from b (c ∷ cs) h =
      elim (cases_Bool (has ns b)) [
        | inl on ↦
            let blank : key_of k (cond (has ns b) None c) ≡ None = ap (λ v. key_of k (cond v None c)) on ∙ none_blank k in
            subst (λ o. is_distinct same_bytes (option_to_list o ++ keys_of k (cells_without (suc b) ns cs)) ≡ true) (sym blank) (distinct_from (suc b) cs (distinct_below (key_of k c) (keys_of k cs) h))
        | inr out ↦
            let same : key_of k (cond (has ns b) None c) ≡ key_of k c = ap (λ v. key_of k (cond v None c)) out in
            subst (λ o. is_distinct same_bytes (option_to_list o ++ keys_of k (cells_without (suc b) ns cs)) ≡ true) (sym same) (distinct_both (key_of k c) _ (keys_of k cs) (fewer (suc b) cs) (distinct_from (suc b) cs) h)
      ]

  -- blanked cells have no key twice where none had before
  pub cleared_distinct : (cs : List (Option Node)) → is_distinct same_bytes (keys_of k cs) ≡ true → is_distinct same_bytes (keys_of k (cells_without 0 ns cs)) ≡ true
  cleared_distinct cs = distinct_from 0 cs

module _ (k : KeyKind) (l : List ℕ) where
  no_blank : key_of k None ≡ Some l → ⊥
  no_blank is = true≢false (ap is_some (sym is ∙ none_blank k))

  counted_none : (xs : List (List ℕ)) → is_distinct same_bytes (l ∷ xs) ≡ true → 1 ≤ count same_bytes l xs → ⊥
  unfolding is_distinct
  counted_none xs h some =
      let none = eqb-true (count same_bytes l xs) 0 (and_parts (count same_bytes l xs == 0) (is_distinct same_bytes xs) h).0 in
      absurd (omega arith)

  -- one cell has it
  pub only_one : (cs : List (Option Node)) (x y : ℕ) → is_distinct same_bytes (keys_of k cs) ≡ true → key_in k cs x ≡ Some l → key_in k cs y ≡ Some l → x ≡ y
  only_one [] x y h a b = absurd (no_blank a)
  only_one (c ∷ cs) zero zero h a b = refl
  only_one (c ∷ cs) zero (suc y) h a b = absurd (counted_none (keys_of k cs) (subst (λ o. is_distinct same_bytes (option_to_list o ++ keys_of k cs) ≡ true) a h) (counted (key_of k) (none_blank k) cs y l b))
  only_one (c ∷ cs) (suc x) zero h a b = absurd (counted_none (keys_of k cs) (subst (λ o. is_distinct same_bytes (option_to_list o ++ keys_of k cs) ≡ true) b h) (counted (key_of k) (none_blank k) cs x l a))
  only_one (c ∷ cs) (suc x) (suc y) h a b = ap suc (only_one cs x y (distinct_below (key_of k c) (keys_of k cs) h) a b)

-- ---- whether a cell beside them has a key

module _ (k : KeyKind) (ns : List ℕ) (cs : List (Option Node)) (l : List ℕ) where
  left_key : (x : ℕ) → key_in k (cells_without 0 ns cs) x ≡ Some l → (has ns x ≡ false) × (key_in k cs x ≡ Some l)
  left_key x is = elim (cases_Bool (has ns x)) [
    | inl on ↦ absurd (true≢false (ap is_some (sym is ∙ key_cleared k ns cs x on)))
    | inr out ↦ (out, sym (key_left k ns cs x out) ∙ is)
  ]

  pub beside_none : false ≡ is_held k cs l → false ≡ is_held k (cells_without 0 ns cs) l
  beside_none none = held_nowhere k (cells_without 0 ns cs) l (λ x is. true≢false (held_at k cs l x (left_key x is).1 ∙ sym none))

  pub beside_on : (y : ℕ) → is_distinct same_bytes (keys_of k cs) ≡ true → key_in k cs y ≡ Some l → has ns y ≡ true → false ≡ is_held k (cells_without 0 ns cs) l
  beside_on y h here on = held_nowhere k (cells_without 0 ns cs) l (λ x is.
      let there = left_key x is in
      true≢false (sym on ∙ ap (has ns) (only_one k l cs y x h here there.1) ∙ there.0))

  pub beside_out : (y : ℕ) → key_in k cs y ≡ Some l → has ns y ≡ false → true ≡ is_held k (cells_without 0 ns cs) l
  beside_out y here out = held_at k (cells_without 0 ns cs) l y (key_left k ns cs y out ∙ here)

-- a search of some numbers
pub has_searched : (ns : List ℕ) (x : ℕ) → list_any (λ n. n == x) ns ≡ has ns x
unfolding has
has_searched [] x = refl
has_searched (n ∷ ns) x = ap (λ v. (n == x) || v) (has_searched ns x)
