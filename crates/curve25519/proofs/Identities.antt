-- Identities of a commutative ring, with subtraction, and what follows from relations by a certificate.
use Rattle.std.proofs.Common.{◌≡◌, ℕ, zero, suc, Bool, true, ◌&&◌, List, [], ◌∷◌, refl, sym, ap, ap₂, ◌∙◌}
use Rattle.curve25519.proofs.Ring.{Ring, nil-add, cancel, neg-add, exchange}
use Rattle.curve25519.proofs.Polynomials.{P, none, whole, plus, times, variable, same, var, _sum, _prod}
use Rattle.curve25519.proofs.Evaluation.{equal, value, value_none, value_whole, value_plus, value_times, value_same, value_variable, and_parts}
use Rattle.std.proofs.Common.{ltb}

pub data Term : Type 0 where
  v : ℕ → Term
  i : Term
  o : Term
  ◌⊕◌ : Term → Term → Term
  ◌⊗◌ : Term → Term → Term
  -◌ : Term → Term

infixl 50 ◌⊕◌
infixl 60 ◌⊗◌
infix 70 -◌
abbrev pub ◌⊖◌ : Term → Term → Term
a ⊖ b = a ⊕ (- b)

infixl 50 ◌⊖◌
abbrev pub sum_pairs : (k : ℕ) → P k × P k → P k × P k → P k × P k
sum_pairs k a b = (plus k a.0 b.0, plus k a.1 b.1)

abbrev pub product_pairs : (k : ℕ) → P k × P k → P k × P k → P k × P k
product_pairs k a b = (plus k (times k a.0 b.0) (times k a.1 b.1), plus k (times k a.0 b.1) (times k a.1 b.0))

abbrev pub swap_pair : (k : ℕ) → P k × P k → P k × P k
swap_pair k a = (a.1, a.0)

abbrev pub signed : (k : ℕ) → Term → P k × P k
signed k (v n) = (variable k n, none k)
signed k i = (whole k, none k)
signed k o = (none k, none k)
signed k (a ⊕ b) = sum_pairs k (signed k a) (signed k b)
signed k (a ⊗ b) = product_pairs k (signed k a) (signed k b)
signed k (- a) = swap_pair k (signed k a)

abbrev pub inside : ℕ → Term → Bool
inside k (v n) = ltb n k
inside k i = true
inside k o = true
inside k (a ⊕ b) = inside k a && inside k b
inside k (a ⊗ b) = inside k a && inside k b
inside k (- a) = inside k a

abbrev pub same_pairs : (k : ℕ) → P k × P k → P k × P k → Bool
same_pairs k a b = same k (plus k a.0 b.1) (plus k b.0 a.1)

module _ (r : Ring) where
  open r.numbers use {Of, nil, one, add, mul, neg}
  open r.laws use {add-comm, add-assoc, add-nil, mul-comm, mul-assoc, mul-one, mul-nil, distrib, add-neg}

  abbrev pub ⟦_⟧ : Term → (ℕ → Of) → Of
  ⟦_⟧ (v n) ρ = ρ n
  ⟦_⟧ i ρ = one
  ⟦_⟧ o ρ = nil
  ⟦_⟧ (a ⊕ b) ρ = add (⟦_⟧ a ρ) (⟦_⟧ b ρ)
  ⟦_⟧ (a ⊗ b) ρ = mul (⟦_⟧ a ρ) (⟦_⟧ b ρ)
  ⟦_⟧ (- a) ρ = neg (⟦_⟧ a ρ)

  abbrev pub lookup : List Of → ℕ → Of
  lookup [] n = nil
  lookup (x ∷ xs) zero = x
  lookup (x ∷ xs) (suc n) = lookup xs n

  -- (m₁ * m₂) + (p₁ n₂ + n₁ p₂) is p₁ p₂ + n₁ n₂, where p is m + n
  product_law : (m n m' n' : Of) → add (mul m m') (add (mul (add m n) n') (mul n (add m' n'))) ≡ add (mul (add m n) (add m' n')) (mul n n')
  product_law m n m' n' =
      equal r 4 (_sum (_prod (var 0) (var 2)) (_sum (_prod (_sum (var 0) (var 1)) (var 3)) (_prod (var 1) (_sum (var 2) (var 3)))))
      (_sum (_prod (_sum (var 0) (var 1)) (_sum (var 2) (var 3))) (_prod (var 1) (var 3))) refl (lookup (m ∷ n ∷ m' ∷ n' ∷ []))

  product_kept : (ρ : ℕ → Of) (k : ℕ) (m m' : Of) (a b : P k × P k) → add m (value r ρ k a.1) ≡ value r ρ k a.0 → add m' (value r ρ k b.1) ≡ value r ρ k b.0
      → add (mul m m') (value r ρ k (product_pairs k a b).1) ≡ value r ρ k (product_pairs k a b).0
  product_kept ρ k m m' a b e f =
      ap (add (mul m m')) (value_plus r ρ k (times k a.0 b.1) (times k a.1 b.0) ∙ ap₂ add (value_times r ρ k a.0 b.1 ∙ ap (λ w. mul w (value r ρ k b.1)) (sym e)) (value_times r ρ k a.1 b.0 ∙ ap (mul (value r ρ k a.1)) (sym f)))
      ∙ product_law m (value r ρ k a.1) m' (value r ρ k b.1)
      ∙ ap₂ add (ap₂ mul e f ∙ sym (value_times r ρ k a.0 b.0)) (sym (value_times r ρ k a.1 b.1))
      ∙ sym (value_plus r ρ k (times k a.0 b.0) (times k a.1 b.1))

  negated : (m p n : Of) → add m n ≡ p → add (neg m) p ≡ n
  negated m p n e = ap (add (neg m)) (sym e) ∙ sym (add-assoc (neg m) m n) ∙ ap (λ w. add w n) (neg-add r m) ∙ nil-add r n

  same_kept : (ρ : ℕ → Of) (k : ℕ) (m m' : Of) (a b : P k × P k) → add m (value r ρ k a.1) ≡ value r ρ k a.0 → add m' (value r ρ k b.1) ≡ value r ρ k b.0
      → same_pairs k a b ≡ true → m ≡ m'
  same_kept ρ k m m' a b e f h =
      cancel r m m' (add (value r ρ k a.1) (value r ρ k b.1))
      (sym (add-assoc m (value r ρ k a.1) (value r ρ k b.1)) ∙ ap (λ w. add w (value r ρ k b.1)) e
      ∙ sym (value_plus r ρ k a.0 b.1) ∙ value_same r ρ k (plus k a.0 b.1) (plus k b.0 a.1) h ∙ value_plus r ρ k b.0 a.1
      ∙ ap (λ w. add w (value r ρ k a.1)) (sym f) ∙ add-assoc m' (value r ρ k b.1) (value r ρ k a.1) ∙ ap (add m') (add-comm (value r ρ k b.1) (value r ρ k a.1)))

  pub kept : (ρ : ℕ → Of) (k : ℕ) (t : Term) → inside k t ≡ true → add (⟦_⟧ t ρ) (value r ρ k (signed k t).1) ≡ value r ρ k (signed k t).0
  kept ρ k (v n) h = ap₂ add (sym (value_variable r ρ k n h)) (value_none r ρ k) ∙ add-nil (value r ρ k (variable k n))
  kept ρ k i h = ap₂ add (sym (value_whole r ρ k)) (value_none r ρ k) ∙ add-nil (value r ρ k (whole k))
  kept ρ k o h = nil-add r (value r ρ k (none k))
  kept ρ k (a ⊕ b) h =
      let both = and_parts (inside k a) (inside k b) h in
      ap (add (add (⟦_⟧ a ρ) (⟦_⟧ b ρ))) (value_plus r ρ k (signed k a).1 (signed k b).1)
      ∙ exchange r (⟦_⟧ a ρ) (⟦_⟧ b ρ) (value r ρ k (signed k a).1) (value r ρ k (signed k b).1)
      ∙ ap₂ add (kept ρ k a both.0) (kept ρ k b both.1)
      ∙ sym (value_plus r ρ k (signed k a).0 (signed k b).0)
  kept ρ k (a ⊗ b) h =
      let both = and_parts (inside k a) (inside k b) h in
      product_kept ρ k (⟦_⟧ a ρ) (⟦_⟧ b ρ) (signed k a) (signed k b) (kept ρ k a both.0) (kept ρ k b both.1)
  kept ρ k (- a) h = negated (⟦_⟧ a ρ) (value r ρ k (signed k a).0) (value r ρ k (signed k a).1) (kept ρ k a h)

  -- two terms with the same normal form have the same value
  pub ring : (k : ℕ) (a b : Term) → (inside k a && inside k b) && same_pairs k (signed k a) (signed k b) ≡ true → (ρ : ℕ → Of) → ⟦_⟧ a ρ ≡ ⟦_⟧ b ρ
  ring k a b e ρ =
      let both = and_parts (inside k a && inside k b) (same_pairs k (signed k a) (signed k b)) e in
      let low = and_parts (inside k a) (inside k b) both.0 in
      same_kept ρ k (⟦_⟧ a ρ) (⟦_⟧ b ρ) (signed k a) (signed k b) (kept ρ k a low.0) (kept ρ k b low.1) both.1

  -- ---- what follows from relations

  abbrev pub Relation : Type 0
  Relation = Term × Term × Term

  abbrev pub combined_left : List Relation → Term → Term
  combined_left [] a = a
  combined_left (x ∷ xs) a = combined_left xs (a ⊕ (x.0 ⊗ x.2))

  abbrev pub combined_right : List Relation → Term → Term
  combined_right [] a = a
  combined_right (x ∷ xs) a = combined_right xs (a ⊕ (x.0 ⊗ x.1))

  -- the two sides of each relation agree at ρ
  abbrev pub Holds : (ℕ → Of) → List Relation → Type 0
  Holds ρ [] = Unit {0}
  Holds ρ (x ∷ xs) = (⟦_⟧ x.1 ρ ≡ ⟦_⟧ x.2 ρ) × Holds ρ xs

  uncombine : (ρ : ℕ → Of) (xs : List Relation) (a b : Term) → Holds ρ xs → ⟦_⟧ (combined_left xs a) ρ ≡ ⟦_⟧ (combined_right xs b) ρ → ⟦_⟧ a ρ ≡ ⟦_⟧ b ρ
  uncombine ρ [] a b h e = e
  uncombine ρ (x ∷ xs) a b h e =
      cancel r (⟦_⟧ a ρ) (⟦_⟧ b ρ) (mul (⟦_⟧ x.0 ρ) (⟦_⟧ x.2 ρ))
      (uncombine ρ xs (a ⊕ (x.0 ⊗ x.2)) (b ⊕ (x.0 ⊗ x.1)) h.1 e ∙ ap (λ w. add (⟦_⟧ b ρ) (mul (⟦_⟧ x.0 ρ) w)) h.0)

  -- THE CERTIFICATE: a - b is the sum of q * (left - right) over the relations (q, left, right)
  pub follows : (k : ℕ) (a b : Term) (xs : List Relation)
      → (inside k (combined_left xs a) && inside k (combined_right xs b)) && same_pairs k (signed k (combined_left xs a)) (signed k (combined_right xs b)) ≡ true
      → (ρ : ℕ → Of) → Holds ρ xs → ⟦_⟧ a ρ ≡ ⟦_⟧ b ρ
  follows k a b xs e ρ h = uncombine ρ xs a b h (ring k (combined_left xs a) (combined_right xs b) e ρ)
