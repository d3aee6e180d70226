-- Keys that are gathered from cells, and how many of them repeat.
use Rattle.std.proofs.Common.{◌≡◌, ℕ, zero, suc, ◌+◌, ◌≤◌, ◌==◌, true, false, cond, List, [], ◌∷◌, ◌++◌, length, get_or, Option, Some, None, is_some, refl, sym, ◌∙◌, ap, subst, arith, inl, inr, ne_eqb}
use Rattle.std.proofs.lemmas.Bool.{true≢false, cases_Bool}
use Rattle.std.specs.List.{flat_map}
use Rattle.std.specs.Option.{option_to_list}
use Rattle.mls_leaf.specs.declared.node.Node.{Node}
use Rattle.mls_tree_model.specs.Sets.{same_bytes, count, is_distinct}
use Rattle.mls_tree_model.proofs.MergeLaws.{bytes_refl}
use Rattle.mls_tree_model.proofs.CountLaws.{bytes_true}
use Rattle.mls_tree_index.specs.declared.kind.KeyKind.{KeyKind}
use Rattle.mls_tree_index.specs.declared.kind.KeyKind.TheVariants.{Encryption, Signature}
use Rattle.mls_tree_index.specs.Keys.{key_of, repeats_in}

-- ---- lists of keys

plain : (n : ℕ) → 0 + n ≡ n
plain n = omega arith

pub distinct_where : (xs : List (List ℕ)) → (repeats_in xs == 0) ≡ is_distinct same_bytes xs
unfolding repeats_in is_distinct
distinct_where [] = refl
distinct_where (x ∷ xs) =
    elim (cases_Bool (count same_bytes x xs == 0)) [
      | inl none ↦ rw none (ap (λ n. n == 0) (plain (repeats_in xs)) ∙ distinct_where xs)
      | inr some ↦ rw some (ne_eqb (1 + repeats_in xs) 0 (λ e. absurd (omega arith)))
    ]

repeats_few : (xs : List (List ℕ)) → repeats_in xs ≤ length xs
unfolding repeats_in
repeats_few [] = omega arith
repeats_few (x ∷ xs) =
    let rest = repeats_few xs in
    elim (cases_Bool (count same_bytes x xs == 0)) [
      | inl none ↦ rw none (omega arith)
      | inr some ↦ rw some (omega arith)
    ]

-- 1 where a number isn't 0
abbrev again : ℕ → ℕ
again n = cond (n == 0) 0 1

again_more : (n : ℕ) → again (1 + n) ≡ 1
again_more n = ap (λ v. cond v 0 1) (ne_eqb (1 + n) 0 (λ e. absurd (omega arith)))

other_way : (k l : List ℕ) → same_bytes k l ≡ false → same_bytes l k ≡ false
other_way k l other =
    elim (cases_Bool (same_bytes l k)) [
      | inl same ↦ absurd (true≢false (sym (ap (λ z. same_bytes z l) (sym (bytes_true l k same)) ∙ bytes_refl l) ∙ other))
      | inr apart ↦ apart
    ]

-- one key more below another one
pub repeats_below : (k l : List ℕ) (xs ys : List (List ℕ)) → repeats_in ys ≡ repeats_in xs + again (count same_bytes k xs) → ((m : List ℕ) → count same_bytes m ys ≡ cond (same_bytes k m) 1 0 + count same_bytes m xs) → repeats_in (l ∷ ys) ≡ repeats_in (l ∷ xs) + again (count same_bytes k (l ∷ xs))
unfolding repeats_in count
repeats_below k l xs ys repeats counts =
    elim (cases_Bool (same_bytes k l)) [
      | inl same ↦
          let is : k ≡ l = bytes_true k l same in
          let back : same_bytes l k ≡ true = ap (λ z. same_bytes l z) is ∙ bytes_refl l in
          let one : count same_bytes l ys ≡ 1 + count same_bytes l xs = counts l ∙ ap (λ v. cond v 1 0 + count same_bytes l xs) same in
          let alike : count same_bytes k xs ≡ count same_bytes l xs = ap (λ z. count same_bytes z xs) is in
          ap (λ n. again n + repeats_in ys) one
          ∙ ap (λ n. n + repeats_in ys) (again_more (count same_bytes l xs))
          ∙ ap (λ n. 1 + n) (repeats ∙ ap (λ n. repeats_in xs + again n) alike)
          ∙ swapped (again (count same_bytes l xs)) (repeats_in xs)
          ∙ ap (λ n. (again (count same_bytes l xs) + repeats_in xs) + n) (sym (ap (λ v. again (cond v 1 0 + count same_bytes k xs)) back ∙ again_more (count same_bytes k xs)))
      | inr other ↦
          let back : same_bytes l k ≡ false = other_way k l other in
          let none : count same_bytes l ys ≡ count same_bytes l xs = counts l ∙ ap (λ v. cond v 1 0 + count same_bytes l xs) other ∙ plain (count same_bytes l xs) in
          ap (λ n. again n + repeats_in ys) none
          ∙ ap (λ n. again (count same_bytes l xs) + n) repeats
          ∙ grouped (again (count same_bytes l xs)) (repeats_in xs) (again (count same_bytes k xs))
          ∙ ap (λ n. (again (count same_bytes l xs) + repeats_in xs) + n) (sym (ap (λ v. again (cond v 1 0 + count same_bytes k xs)) back ∙ ap again (plain (count same_bytes k xs))))
    ]
  where
    swapped : (a r : ℕ) → 1 + (r + a) ≡ (a + r) + 1
    swapped a r = omega arith

    grouped : (a r n : ℕ) → a + (r + n) ≡ (a + r) + n
    grouped a r n = omega arith

-- ---- cells

pub none_blank : (k : KeyKind) → key_of k None ≡ None
none_blank Encryption = refl
none_blank Signature = refl

some_none : {k : List ℕ} → Some k ≡ None → ⊥
some_none h = true≢false (ap is_some h)

module _ (f : Option Node → Option (List ℕ)) (none : f None ≡ None) where
  abbrev keys : List (Option Node) → List (List ℕ)
  keys cs = flat_map (λ c. option_to_list (f c)) cs

  pass : (c : Option Node) (cs : List (Option Node)) (o : Option (List ℕ)) → f c ≡ o → keys (c ∷ cs) ≡ option_to_list o ++ keys cs
  pass c cs o is = ap (λ v. option_to_list v ++ keys cs) is

  all_blank : (cs : List (Option Node)) → ((x : ℕ) → f (get_or cs x None) ≡ None) → keys cs ≡ []
  all_blank [] h = refl
  all_blank (c ∷ cs) h = pass c cs None (h 0) ∙ all_blank cs (λ x. h (suc x))

  pub same_gathered : (bs cs : List (Option Node)) → ((x : ℕ) → f (get_or bs x None) ≡ f (get_or cs x None)) → keys bs ≡ keys cs
  same_gathered [] cs h = sym (all_blank cs (λ x. sym (h x) ∙ none))
  same_gathered (b ∷ bs) [] h = all_blank (b ∷ bs) (λ x. h x ∙ none)
  same_gathered (b ∷ bs) (c ∷ cs) h = pass b bs (f c) (h 0) ∙ ap (λ ks. option_to_list (f c) ++ ks) (same_gathered bs cs (λ x. h (suc x)))

  pub few_keys : (cs : List (Option Node)) → length (keys cs) ≤ length cs
  few_keys [] = omega arith
  few_keys (c ∷ cs) = few c cs (f c) refl (few_keys cs)
    where
      few : (c : Option Node) (cs : List (Option Node)) (o : Option (List ℕ)) → f c ≡ o → length (flat_map (λ c. option_to_list (f c)) cs) ≤ length cs → length (flat_map (λ c. option_to_list (f c)) (c ∷ cs)) ≤ length (c ∷ cs)
      few c cs None is rest = subst (λ v. length (option_to_list v ++ flat_map (λ c. option_to_list (f c)) cs) ≤ suc (length cs)) (sym is) (omega arith)
      few c cs (Some k) is rest = subst (λ v. length (option_to_list v ++ flat_map (λ c. option_to_list (f c)) cs) ≤ suc (length cs)) (sym is) (omega arith)

  -- a key of a cell is counted
  pub counted : (cs : List (Option Node)) (x : ℕ) (k : List ℕ) → f (get_or cs x None) ≡ Some k → 1 ≤ count same_bytes k (keys cs)
  unfolding count
  counted [] x k is = absurd (some_none (sym is ∙ none))
  counted (c ∷ cs) zero k is = subst (λ ks. 1 ≤ count same_bytes k ks) (sym (pass c cs (Some k) is)) (rw (bytes_refl k) (omega arith))
  counted (c ∷ cs) (suc x) k is = counted_on c cs k (f c) refl (counted cs x k is)
    where
      counted_on : (c : Option Node) (cs : List (Option Node)) (k : List ℕ) (o : Option (List ℕ)) → f c ≡ o → 1 ≤ count same_bytes k (flat_map (λ c. option_to_list (f c)) cs) → 1 ≤ count same_bytes k (flat_map (λ c. option_to_list (f c)) (c ∷ cs))
      counted_on c cs k None is rest = subst (λ v. 1 ≤ count same_bytes k (option_to_list v ++ flat_map (λ c. option_to_list (f c)) cs)) (sym is) rest
      counted_on c cs k (Some l) is rest = subst (λ v. 1 ≤ count same_bytes k (option_to_list v ++ flat_map (λ c. option_to_list (f c)) cs)) (sym is) (omega arith)

  -- and what is counted is one of a cell
  pub counted_at : (cs : List (Option Node)) (k : List ℕ) → 1 ≤ count same_bytes k (keys cs) → (x : ℕ) × (f (get_or cs x None) ≡ Some k)
  unfolding count
  counted_at [] k some = absurd (omega arith)
  counted_at (c ∷ cs) k some = first (f c) refl some (counted_at cs k)
    where
      first : (o : Option (List ℕ)) → f c ≡ o → 1 ≤ count same_bytes k (option_to_list o ++ flat_map (λ c. option_to_list (f c)) cs) → (1 ≤ count same_bytes k (flat_map (λ c. option_to_list (f c)) cs) → (x : ℕ) × (f (get_or cs x None) ≡ Some k)) → (x : ℕ) × (f (get_or (c ∷ cs) x None) ≡ Some k)
      first None is more below = let r = below more in (suc r.0, r.1)
      first (Some l) is more below =
          elim (cases_Bool (same_bytes l k)) [
            | inl same ↦ (zero, is ∙ ap Some (bytes_true l k same))
            | inr other ↦
                let one : 1 ≤ 0 + count same_bytes k (flat_map (λ c. option_to_list (f c)) cs) = subst (λ v. 1 ≤ cond v 1 0 + count same_bytes k (flat_map (λ c. option_to_list (f c)) cs)) other more in
                let r = below (omega arith) in
                (suc r.0, r.1)
          ]

  -- ---- c has a key k in cell x, and b is c without it
  pub record IsMore (k : List ℕ) (xs ys : List (List ℕ)) : Type 0 where
    pub repeats : repeats_in ys ≡ repeats_in xs + again (count same_bytes k xs)
    pub counts : (m : List ℕ) → count same_bytes m ys ≡ cond (same_bytes k m) 1 0 + count same_bytes m xs

  more_first : (k : List ℕ) (xs : List (List ℕ)) → IsMore k xs (k ∷ xs)
  unfolding repeats_in count
  more_first k xs = record { repeats = omega arith; counts = λ m. refl }

  more_below : (k l : List ℕ) (xs ys : List (List ℕ)) → IsMore k xs ys → IsMore k (l ∷ xs) (l ∷ ys)
  unfolding count
  more_below k l xs ys more = record {
    repeats = repeats_below k l xs ys more.repeats more.counts;
    counts = λ m. ap (λ n. cond (same_bytes l m) 1 0 + n) (more.counts m) ∙ moved (cond (same_bytes l m) 1 0) (cond (same_bytes k m) 1 0) (count same_bytes m xs);
  }
    where
      moved : (a b n : ℕ) → a + (b + n) ≡ b + (a + n)
      moved a b n = omega arith

  more_after : (k : List ℕ) (o : Option (List ℕ)) (xs ys : List (List ℕ)) → IsMore k xs ys → IsMore k (option_to_list o ++ xs) (option_to_list o ++ ys)
  more_after k None xs ys more = more
  more_after k (Some l) xs ys more = more_below k l xs ys more

  pub one_more : (x : ℕ) (k : List ℕ) (bs cs : List (Option Node)) → length bs ≡ length cs → f (get_or cs x None) ≡ Some k → f (get_or bs x None) ≡ None → ((y : ℕ) → (y ≡ x → ⊥) → f (get_or bs y None) ≡ f (get_or cs y None)) → IsMore k (keys bs) (keys cs)
  one_more x k bs [] wide here blank others = absurd (some_none (sym here ∙ none))
  one_more x k [] (c ∷ cs) wide here blank others = absurd (omega arith)
  one_more zero k (b ∷ bs) (c ∷ cs) wide here blank others =
      let same : keys bs ≡ keys cs = same_gathered bs cs (λ y. others (suc y) (λ e. absurd (omega arith))) in
      let before : keys (b ∷ bs) ≡ keys cs = pass b bs None blank ∙ same in
      let after : keys (c ∷ cs) ≡ k ∷ keys cs = pass c cs (Some k) here in
      subst (λ xs. IsMore k xs (keys (c ∷ cs))) (sym before) (subst (λ ys. IsMore k (keys cs) ys) (sym after) (more_first k (keys cs)))
  one_more (suc x) k (b ∷ bs) (c ∷ cs) wide here blank others =
      let rest = one_more x k bs cs (omega arith) here blank (λ y other. others (suc y) (λ e. other (omega arith))) in
      let first : f b ≡ f c = others 0 (λ e. absurd (omega arith)) in
      subst (λ o. IsMore k (option_to_list o ++ keys bs) (keys (c ∷ cs))) (sym first) (more_after k (f c) (keys bs) (keys cs) rest)

  pub repeats_within : (cs : List (Option Node)) → repeats_in (keys cs) ≤ length cs
  repeats_within cs = let a = repeats_few (keys cs) in let b = few_keys cs in omega arith
