-- The normaliser keeps the value.
use Rattle.std.proofs.Common.{◌≡◌, ℕ, zero, suc, ◌<◌, Bool, true, false, ◌&&◌, List, [], ◌∷◌, eqb, ltb, refl, sym, ap, ap₂, ◌∙◌, eqb-true, ltb-true, tests, not-suc-le-zero, arith, true≢false}
use Rattle.curve25519.proofs.Ring.{Ring, nil-add, nil-mul, distrib_right, exchange, mul-swap, num, num-zero, num-one, num-add, num-mul}
use Rattle.curve25519.proofs.Polynomials.{P, plus_list, scale, times_list, none, whole, plus, times, variable, all_none, is_none, same_list, same, Expr, var, unit, _sum, _prod, norm, within}

pub and_parts : (a b : Bool) → (a && b) ≡ true → (a ≡ true) × (b ≡ true)
and_parts true b e = (refl, e)
and_parts false b e = absurd (true≢false (sym e))

ltb→lt_true : (m n : ℕ) → ltb m n ≡ true → m < n
ltb→lt_true m n e = grind (arith, ltb-true)

below_rest : (i k : ℕ) → ltb i (suc k) ≡ true → eqb i k ≡ false → ltb i k ≡ true
below_rest i k e other = grind (arith, tests)

module _ (r : Ring) where
  open r.numbers use {Of, nil, one, add, mul}
  open r.laws use {add-comm, add-assoc, add-nil, mul-comm, mul-assoc, mul-one, mul-nil, distrib}

  -- the value of a list of coefficients at x
  abbrev pub at : {A : Type 0} → (A → Of) → Of → List A → Of
  at f x [] = nil
  at f x (a ∷ p) = add (f a) (mul x (at f x p))

  at_plus : {A : Type 0} (f : A → Of) (x : Of) (g : A → A → A) → ((a b : A) → f (g a b) ≡ add (f a) (f b)) → (p q : List A) → at f x (plus_list g p q) ≡ add (at f x p) (at f x q)
  at_plus f x g h [] q = sym (nil-add r (at f x q))
  at_plus f x g h (a ∷ p) [] = sym (add-nil (at f x (a ∷ p)))
  at_plus f x g h (a ∷ p) (b ∷ q) =
      ap₂ add (h a b) (ap (mul x) (at_plus f x g h p q) ∙ distrib x (at f x p) (at f x q))
      ∙ exchange r (f a) (f b) (mul x (at f x p)) (mul x (at f x q))

  at_scale : {A : Type 0} (f : A → Of) (x : Of) (g : A → A → A) → ((a b : A) → f (g a b) ≡ mul (f a) (f b)) → (a : A) (q : List A) → at f x (scale g a q) ≡ mul (f a) (at f x q)
  at_scale f x g h a [] = sym (mul-nil (f a))
  at_scale f x g h a (b ∷ q) =
      ap₂ add (h a b) (ap (mul x) (at_scale f x g h a q) ∙ sym (mul-swap r (f a) x (at f x q)))
      ∙ sym (distrib (f a) (f b) (mul x (at f x q)))

  at_times : {A : Type 0} (f : A → Of) (x : Of) (o : A) (s g : A → A → A) → f o ≡ nil → ((a b : A) → f (s a b) ≡ add (f a) (f b)) → ((a b : A) → f (g a b) ≡ mul (f a) (f b))
      → (p q : List A) → at f x (times_list o s g p q) ≡ mul (at f x p) (at f x q)
  at_times f x o s g ho hs hg [] q = sym (nil-mul r (at f x q))
  at_times f x o s g ho hs hg (a ∷ p) q =
      at_plus f x s hs (scale g a q) (o ∷ times_list o s g p q)
      ∙ ap₂ add (at_scale f x g hg a q)
      (ap₂ add ho (ap (mul x) (at_times f x o s g ho hs hg p q) ∙ sym (mul-assoc x (at f x p) (at f x q))) ∙ nil-add r (mul (mul x (at f x p)) (at f x q)))
      ∙ sym (distrib_right r (f a) (mul x (at f x p)) (at f x q))

  at_none : {A : Type 0} (f : A → Of) (x : Of) (z : A → Bool) → ((a : A) → z a ≡ true → f a ≡ nil) → (p : List A) → all_none z p ≡ true → at f x p ≡ nil
  at_none f x z h [] e = refl
  at_none f x z h (a ∷ p) e =
      let both = and_parts (z a) (all_none z p) e in
      ap₂ add (h a both.0) (ap (mul x) (at_none f x z h p both.1) ∙ mul-nil x) ∙ add-nil nil

  at_same : {A : Type 0} (f : A → Of) (x : Of) (z : A → Bool) (s : A → A → Bool) → ((a : A) → z a ≡ true → f a ≡ nil) → ((a b : A) → s a b ≡ true → f a ≡ f b)
      → (p q : List A) → same_list z s p q ≡ true → at f x p ≡ at f x q
  at_same f x z s hz hs [] q e = sym (at_none f x z hz q e)
  at_same f x z s hz hs (a ∷ p) [] e = at_none f x z hz (a ∷ p) e
  at_same f x z s hz hs (a ∷ p) (b ∷ q) e =
      let both = and_parts (s a b) (same_list z s p q) e in
      ap₂ add (hs a b both.0) (ap (mul x) (at_same f x z s hz hs p q both.1))

  -- ---- the value of a polynomial

  abbrev pub value : (ℕ → Of) → (k : ℕ) → P k → Of
  value ρ zero n = num r n
  value ρ (suc k) p = at (value ρ k) (ρ k) p

  pub value_none : (ρ : ℕ → Of) (k : ℕ) → value ρ k (none k) ≡ nil
  value_none ρ zero = num-zero r
  value_none ρ (suc k) = refl

  pub value_whole : (ρ : ℕ → Of) (k : ℕ) → value ρ k (whole k) ≡ one
  value_whole ρ zero = num-one r
  value_whole ρ (suc k) = ap₂ add (value_whole ρ k) (mul-nil (ρ k)) ∙ add-nil one

  pub value_plus : (ρ : ℕ → Of) (k : ℕ) (p q : P k) → value ρ k (plus k p q) ≡ add (value ρ k p) (value ρ k q)
  value_plus ρ zero p q = num-add r p q
  value_plus ρ (suc k) p q = at_plus (value ρ k) (ρ k) (plus k) (value_plus ρ k) p q

  pub value_times : (ρ : ℕ → Of) (k : ℕ) (p q : P k) → value ρ k (times k p q) ≡ mul (value ρ k p) (value ρ k q)
  value_times ρ zero p q = num-mul r p q
  value_times ρ (suc k) p q = at_times (value ρ k) (ρ k) (none k) (plus k) (times k) (value_none ρ k) (value_plus ρ k) (value_times ρ k) p q

  value_is_none : (ρ : ℕ → Of) (k : ℕ) (p : P k) → is_none k p ≡ true → value ρ k p ≡ nil
  value_is_none ρ zero p e = ap (num r) (eqb-true p 0 e) ∙ num-zero r
  value_is_none ρ (suc k) p e = at_none (value ρ k) (ρ k) (is_none k) (value_is_none ρ k) p e

  pub value_same : (ρ : ℕ → Of) (k : ℕ) (p q : P k) → same k p q ≡ true → value ρ k p ≡ value ρ k q
  value_same ρ zero p q e = ap (num r) (eqb-true p q e)
  value_same ρ (suc k) p q e = at_same (value ρ k) (ρ k) (is_none k) (same k) (value_is_none ρ k) (value_same ρ k) p q e

  pub value_variable : (ρ : ℕ → Of) (k i : ℕ) → ltb i k ≡ true → value ρ k (variable k i) ≡ ρ i
  value_variable ρ zero i e = absurd (not-suc-le-zero (ltb→lt_true i zero e))
  value_variable ρ (suc k) i e = go (eqb i k) refl (value_variable ρ k i)
    where
      go : (b : Bool) → eqb i k ≡ b → (ltb i k ≡ true → value ρ k (variable k i) ≡ ρ i) → value ρ (suc k) (elim b [ true ↦ none k ∷ whole k ∷ [] | false ↦ variable k i ∷ [] ]) ≡ ρ i
      go true hit before = ap₂ add (value_none ρ k) (ap (mul (ρ k)) (ap₂ add (value_whole ρ k) (mul-nil (ρ k)) ∙ add-nil one) ∙ mul-one (ρ k)) ∙ nil-add r (ρ k) ∙ ap ρ (sym (eqb-true i k hit))
      go false other before = ap₂ add (before (below_rest i k e other)) (mul-nil (ρ k)) ∙ add-nil (ρ i)

  -- ---- expressions

  abbrev pub meaning : (ℕ → Of) → Expr → Of
  meaning ρ (var i) = ρ i
  meaning ρ unit = one
  meaning ρ (_sum a b) = add (meaning ρ a) (meaning ρ b)
  meaning ρ (_prod a b) = mul (meaning ρ a) (meaning ρ b)

  value_norm : (ρ : ℕ → Of) (k : ℕ) (e : Expr) → within k e ≡ true → value ρ k (norm k e) ≡ meaning ρ e
  value_norm ρ k (var i) h = value_variable ρ k i h
  value_norm ρ k unit h = value_whole ρ k
  value_norm ρ k (_sum a b) h =
      let both = and_parts (within k a) (within k b) h in
      value_plus ρ k (norm k a) (norm k b) ∙ ap₂ add (value_norm ρ k a both.0) (value_norm ρ k b both.1)
  value_norm ρ k (_prod a b) h =
      let both = and_parts (within k a) (within k b) h in
      value_times ρ k (norm k a) (norm k b) ∙ ap₂ mul (value_norm ρ k a both.0) (value_norm ρ k b both.1)

  -- THE THEOREM: two expressions that the kernel normalises to the same polynomial have the same value everywhere
  pub equal : (k : ℕ) (a b : Expr) → (within k a && within k b) && same k (norm k a) (norm k b) ≡ true → (ρ : ℕ → Of) → meaning ρ a ≡ meaning ρ b
  equal k a b e ρ =
      let both = and_parts (within k a && within k b) (same k (norm k a) (norm k b)) e in
      let low = and_parts (within k a) (within k b) both.0 in
      sym (value_norm ρ k a low.0) ∙ value_same ρ k (norm k a) (norm k b) both.1 ∙ value_norm ρ k b low.1
