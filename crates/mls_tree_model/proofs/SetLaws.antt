-- Tests, and lists as sets.
use Rattle.std.proofs.Common.{◌≡◌, ℕ, ◌+◌, ◌*◌, ◌<◌, ◌≤◌, ◌==◌, nat_lt, length, get_or, drop, ne_eqb, Bool, true, false, ◌&&◌, ◌||◌, List, [], ◌∷◌, ◌++◌, filter, refl, sym, ◌∙◌, ap, subst, inl, inr, arith, eqb-true, eq-eqb, nat_eq}
use Rattle.std.specs.List.{list_all, list_any}
use Rattle.std.specs.Cmp.{both_ways}
use Rattle.std.proofs.lemmas.Bool.{true≢false, cases_Bool, and_parts, and_from, or_cases, or_left, or_right, cond_both}
use Rattle.std.proofs.lemmas.List.{drop_more, drop_all}
use Rattle.std.proofs.Math.Bool.{and-false, or_assoc, or_comm}
use lib.Pointwise.{pointwise}
use Rattle.mls_leaf.specs.Parent.{rising_with}
use Rattle.mls_tree_model.specs.Sets.{has, leaf_numbers, is_same_set, same_bytes}

pub eqb_refl : (x : ℕ) → (x == x) ≡ true
eqb_refl x = eq-eqb x x refl

pub all_at : (p : ℕ → Bool) (xs : List ℕ) (x : ℕ) → list_all p xs ≡ true → has xs x ≡ true → p x ≡ true
unfolding has
all_at p [] x h e = absurd (true≢false (sym e))
all_at p (y ∷ ys) x h e =
    elim (or_cases (y == x) (has ys x) e) [
      | inl k ↦ sym (ap p (eqb-true y x k)) ∙ (and_parts (p y) (list_all p ys) h).0
      | inr k ↦ all_at p ys x (and_parts (p y) (list_all p ys) h).1 k
    ]

pub all_from : (p : ℕ → Bool) (xs : List ℕ) → ((x : ℕ) → has xs x ≡ true → p x ≡ true) → list_all p xs ≡ true
unfolding has
all_from p [] h = refl
all_from p (y ∷ ys) h =
    and_from (p y) (list_all p ys)
    (h y (or_left (y == y) (has ys y) (eqb_refl y)))
    (all_from p ys (λ x e. h x (or_right (y == x) (has ys x) e)))

pub any_at : (p : ℕ → Bool) (xs : List ℕ) → list_any p xs ≡ true → (x : ℕ) × (has xs x ≡ true) × (p x ≡ true)
unfolding has
any_at p [] h = absurd (true≢false (sym h))
any_at p (y ∷ ys) h =
    elim (or_cases (p y) (list_any p ys) h) [
      | inl k ↦ (y, or_left (y == y) (has ys y) (eqb_refl y), k)
      | inr k ↦ let r = any_at p ys k in (r.0, or_right (y == r.0) (has ys r.0) r.1, r.2)
    ]

pub any_from : (p : ℕ → Bool) (xs : List ℕ) (x : ℕ) → has xs x ≡ true → p x ≡ true → list_any p xs ≡ true
unfolding has
any_from p [] x e h = absurd (true≢false (sym e))
any_from p (y ∷ ys) x e h =
    elim (or_cases (y == x) (has ys x) e) [
      | inl k ↦ or_left (p y) (list_any p ys) (ap p (eqb-true y x k) ∙ h)
      | inr k ↦ or_right (p y) (list_any p ys) (any_from p ys x k h)
    ]

pub has-append : (xs ys : List ℕ) (x : ℕ) → has (xs ++ ys) x ≡ (has xs x || has ys x)
unfolding has
has-append [] ys x = refl
has-append (y ∷ xs) ys x =
    elim (y == x) as (λ v. (v || has (xs ++ ys) x) ≡ ((v || has xs x) || has ys x)) [ true ↦ refl | false ↦ has-append xs ys x ]

pub has-any : (xs : List ℕ) (x : ℕ) → list_any (λ y. nat_eq y x) xs ≡ has xs x
unfolding has
has-any [] x = refl
has-any (y ∷ ys) x = ap (λ v. nat_eq y x || v) (has-any ys x)

-- what a filter keeps
pub has-filter : (p : ℕ → Bool) (xs : List ℕ) (x : ℕ) → has (filter p xs) x ≡ (has xs x && p x)
unfolding has
has-filter p [] x = refl
has-filter p (y ∷ ys) x =
    elim (cases_Bool (y == x)) [
      | inl k ↦
          let e : p y ≡ p x = ap p (eqb-true y x k) in
          elim (cases_Bool (p y)) [
            | inl t ↦ rw (t, k) (sym (sym e ∙ t))
            | inr t ↦ rw (t, k) (has-filter p ys x ∙ rw (sym e ∙ t) (and-false (has ys x)))
          ]
      | inr k ↦
          elim (cases_Bool (p y)) [
            | inl t ↦ rw (t, k) (has-filter p ys x)
            | inr t ↦ rw (t, k) (has-filter p ys x)
          ]
    ]

pub has-with : (x : ℕ) (ys : List ℕ) (u : ℕ) → has (rising_with x ys) u ≡ (has ys u || (x == u))
unfolding has rising_with
has-with x [] u = elim (x == u) as (λ v. (v || false) ≡ v) [ true ↦ refl | false ↦ refl ]
has-with x (y ∷ ys) u =
    cond_both (nat_lt x y) _ _ (λ zs. has zs u ≡ (((y == u) || has ys u) || (x == u)))
    (λ _. or_comm (x == u) ((y == u) || has ys u))
    (λ _. cond_both (x == y) _ _ (λ zs. has zs u ≡ (((y == u) || has ys u) || (x == u)))
    (λ k. let e : x ≡ y = eqb-true x y k in rw e (twice (y == u) (has ys u)))
    (λ _. ap (λ v. (y == u) || v) (has-with x ys u) ∙ sym (or_assoc (y == u) (has ys u) (x == u))))
  where
    twice : (a b : Bool) → (a || b) ≡ ((a || b) || a)
    twice true true = refl
    twice true false = refl
    twice false true = refl
    twice false false = refl

pub has-leaf_numbers : (us : List ℕ) (u : ℕ) → has (leaf_numbers us) (2 * u) ≡ has us u
unfolding has
has-leaf_numbers [] u = refl
has-leaf_numbers (y ∷ ys) u =
    let e : (2 * y == 2 * u) ≡ (y == u) = both_ways _ _ (λ k. let f : 2 * y ≡ 2 * u = eqb-true (2 * y) (2 * u) k in eq-eqb y u (omega arith)) (λ k. let f : y ≡ u = eqb-true y u k in eq-eqb (2 * y) (2 * u) (omega arith)) in
    rw e (ap (λ v. (y == u) || v) (has-leaf_numbers ys u))

pub of_leaf_numbers : (us : List ℕ) (d : ℕ) → has (leaf_numbers us) d ≡ true → (u : ℕ) × (d ≡ 2 * u) × (has us u ≡ true)
unfolding has
of_leaf_numbers [] d h = absurd (true≢false (sym h))
of_leaf_numbers (y ∷ ys) d h =
    elim (or_cases (2 * y == d) (has (leaf_numbers ys) d) h) [
      | inl k ↦ (y, sym (eqb-true (2 * y) d k), or_left (y == y) (has ys y) (eqb_refl y))
      | inr k ↦ let r = of_leaf_numbers ys d k in (r.0, r.1, or_right (y == r.0) (has ys r.0) r.2)
    ]

-- one number more, and the same numbers
pub numbers_more : (i : ℕ) (vs ws : List ℕ) → ((u : ℕ) → has vs u ≡ (has ws u || (i == u))) → (d : ℕ) → has (leaf_numbers vs) d ≡ (has (leaf_numbers ws) d || (2 * i == d))
numbers_more i vs ws same d = both_ways _ _ to from
  where
    to : has (leaf_numbers vs) d ≡ true → (has (leaf_numbers ws) d || (2 * i == d)) ≡ true
    to h =
        let g = of_leaf_numbers vs d h in
        let is = g.1 in
        elim (or_cases (has ws g.0) (i == g.0) (sym (same g.0) ∙ g.2)) [
          | inl k ↦ or_left _ (2 * i == d) (subst (λ n. has (leaf_numbers ws) n ≡ true) (sym is) (has-leaf_numbers ws g.0 ∙ k))
          | inr k ↦ let f : i ≡ g.0 = eqb-true i g.0 k in or_right (has (leaf_numbers ws) d) _ (eq-eqb (2 * i) d (omega arith))
        ]

    from : (has (leaf_numbers ws) d || (2 * i == d)) ≡ true → has (leaf_numbers vs) d ≡ true
    from h =
        elim (or_cases (has (leaf_numbers ws) d) _ h) [
          | inl k ↦
              let g = of_leaf_numbers ws d k in
              subst (λ n. has (leaf_numbers vs) n ≡ true) (sym g.1) (has-leaf_numbers vs g.0 ∙ same g.0 ∙ or_left (has ws g.0) _ g.2)
          | inr k ↦ subst (λ n. has (leaf_numbers vs) n ≡ true) (eqb-true (2 * i) d k) (has-leaf_numbers vs i ∙ same i ∙ or_right (has ws i) _ (eq-eqb i i refl))
        ]

pub numbers_same : (vs ws : List ℕ) → ((u : ℕ) → has vs u ≡ has ws u) → (d : ℕ) → has (leaf_numbers vs) d ≡ has (leaf_numbers ws) d
numbers_same vs ws same d = both_ways _ _ (one vs ws same) (one ws vs (λ u. sym (same u)))
  where
    one : (vs ws : List ℕ) → ((u : ℕ) → has vs u ≡ has ws u) → has (leaf_numbers vs) d ≡ true → has (leaf_numbers ws) d ≡ true
    one vs ws same h =
        let g = of_leaf_numbers vs d h in
        subst (λ n. has (leaf_numbers ws) n ≡ true) (sym g.1) (has-leaf_numbers ws g.0 ∙ sym (same g.0) ∙ g.2)

-- equal sets, by membership
pub set_at : (xs ys : List ℕ) → is_same_set xs ys ≡ true → (x : ℕ) → has xs x ≡ has ys x
set_at xs ys h x =
    let p = and_parts (list_all (has ys) xs) (list_all (has xs) ys) h in
    both_ways _ _ (all_at (has ys) xs x p.0) (all_at (has xs) ys x p.1)

pub set_from : (xs ys : List ℕ) → ((x : ℕ) → has xs x ≡ has ys x) → is_same_set xs ys ≡ true
set_from xs ys h =
    and_from (list_all (has ys) xs) (list_all (has xs) ys)
    (all_from (has ys) xs (λ x e. sym (h x) ∙ e))
    (all_from (has xs) ys (λ x e. h x ∙ e))

-- byte strings that are compared
pub same-pointwise : (xs ys : List ℕ) → pointwise nat_eq xs ys ≡ same_bytes xs ys
unfolding same_bytes
same-pointwise [] [] = refl
same-pointwise [] (y ∷ ys) = refl
same-pointwise (x ∷ xs) [] = refl
same-pointwise (x ∷ xs) (y ∷ ys) = ap (λ v. nat_eq x y && v) (same-pointwise xs ys)

-- ---- a search for the node number of a leaf, one leaf after another

module _ (us : List ℕ) (k n : ℕ) where
  leaf_more : k < length us → has (leaf_numbers (drop k us)) n ≡ ((2 * get_or us k 0 == n) || has (leaf_numbers (drop (k + 1) us)) n)
  unfolding has
  leaf_more lt = ap (λ ys. has (leaf_numbers ys) n) (drop_more us k 0 lt)

  pub leaf_here : k < length us → 2 * get_or us k 0 ≡ n → has (leaf_numbers (drop k us)) n ≡ true
  leaf_here lt is = leaf_more lt ∙ or_left (2 * get_or us k 0 == n) _ (eq-eqb (2 * get_or us k 0) n is)

  pub leaf_elsewhere : k < length us → (2 * get_or us k 0 ≡ n → ⊥) → has (leaf_numbers (drop (k + 1) us)) n ≡ has (leaf_numbers (drop k us)) n
  leaf_elsewhere lt other = sym (leaf_more lt ∙ ap (λ b. b || has (leaf_numbers (drop (k + 1) us)) n) (ne_eqb (2 * get_or us k 0) n other))

  pub leaf_nowhere : length us ≤ k → has (leaf_numbers (drop k us)) n ≡ false
  unfolding has
  leaf_nowhere ge = ap (λ ys. has (leaf_numbers ys) n) (drop_all k us ge)
