-- Lucas's test: a number whose units have a generator of full order is prime, and each unit is a power of it.
use Rattle.std.proofs.Common.{◌≡◌, ◌≢◌, ◌⊎◌, inl, inr, ℕ, zero, suc, pred, ◌+◌, ◌-◌, ◌*◌, ◌/◌, ◌%◌, ◌<◌, ◌≤◌, List, [], ◌∷◌, Bool, true, false, eqb, eqb-true, refl, sym, ap, ap₂, subst, ◌∙◌, mul_assoc, mul_comm, one-mul, mul-one, zero-mul, mul-zero, mod-lt, mod-eq_of_lt, div-add-mod', mul-suc, mul-add, mul-div_cancel, arith}
use Rattle.std.proofs.Math.Nat.{mul-sub, add-sub_cancel}
use Rattle.std.proofs.lemmas.Nat.{mul-mod_second}
use Rattle.std.proofs.lemmas.Bool.{cases_lt, cases_eq, eqb-false}
use Rattle.curve25519.specs.Powers.{power}
use Rattle.curve25519.proofs.Powers.{power-zero, power-add, power-mul, power-base, power_mod_self}

-- every number that q does not divide has an inverse
pub record IsPrime (q : ℕ) : Type 0 where
  pub above_one : 1 < q
  pub inverse : (a : ℕ) → a % q ≢ 0 → (u : ℕ) × (u * a % q ≡ 1)

abbrev Divides : ℕ → ℕ → Type 0
Divides c x = (y : ℕ) × (x ≡ c * y)

-- c divides x wherever it divides q * x
abbrev Free : ℕ → ℕ → Type 0
Free c q = (x : ℕ) → Divides c (q * x) → Divides c x

free_of : (c q : ℕ) → IsPrime q → c % q ≢ 0 → Free c q
free_of c q prime h x divided =
    let u = prime.inverse c h in
    let w : ℕ = u.0 * c / q in
    let y = divided.0 in (
      x * u.0 - w * y,
      sym (
          mul-sub c (x * u.0) (w * y)
          ∙ ap (λ t. t - c * (w * y)) (whole u.0 w y (sym (ap (λ t. w * q + t) (sym u.1) ∙ div-add-mod' (u.0 * c) q)) divided.1)
          ∙ add-sub_cancel x (c * (w * y))),
    )
  where
    whole : (u w y : ℕ) → u * c ≡ w * q + 1 → q * x ≡ c * y → c * (x * u) ≡ x + c * (w * y)
    whole u w y e d =
        (mul_comm c (x * u) ∙ mul_assoc x u c ∙ ap (λ t. x * t) e ∙ mul-add x (w * q) 1)
        ∙ ap₂ (λ s t. s + t) (turn ∙ ap (λ t. w * t) d ∙ sym (swap w)) (mul-one x)
        ∙ omega arith
      where
        turn : x * (w * q) ≡ w * (q * x)
        turn = omega arith

        swap : (w : ℕ) → c * (w * y) ≡ w * (c * y)
        swap w = omega arith

abbrev pub product : List ℕ → ℕ
product [] = 1
product (q ∷ qs) = q * product qs

abbrev pub EachPrime : List ℕ → Type 0
EachPrime [] = Unit {0}
EachPrime (q ∷ qs) = IsPrime q × EachPrime qs

-- g to the n / q is not 1
abbrev pub EachProper : ℕ → ℕ → ℕ → List ℕ → Type 0
EachProper p g n [] = Unit {0}
EachProper p g n (q ∷ qs) = (power p g (n / q) ≢ 1) × EachProper p g n qs

-- ---- exponents at which the power is 1

module _ (p g : ℕ) (big : 1 < p) where
  one_mod : 1 % p ≡ 1
  one_mod = mod-eq_of_lt big

  add_one : (i j : ℕ) → power p g i ≡ 1 → power p g (i + j) ≡ power p g j
  add_one i j e = power-add p g i j ∙ ap (λ x. x * power p g j % p) e ∙ ap (λ x. x % p) (one-mul (power p g j)) ∙ power_mod_self p g j

  many_one : (i j : ℕ) → power p g i ≡ 1 → power p g (i * j) ≡ 1
  many_one i zero e = ap (power p g) (mul-zero i) ∙ power-zero p g ∙ one_mod
  many_one i (suc j) e = ap (power p g) (omega (arith, mul-suc i j)) ∙ add_one i (i * j) e ∙ many_one i j e

  -- a common divisor of two such exponents that is one too
  abbrev Common : ℕ → ℕ → Type 0
  Common a b = (e : ℕ) × Divides e a × Divides e b × (power p g e ≡ 1)

  abbrev Smaller : ℕ → Type 0
  Smaller f = (a b : ℕ) → a + b ≤ f → power p g a ≡ 1 → power p g b ≡ 1 → Common a b

  euclid_step : (f a b : ℕ) → suc a + suc b ≤ suc f → power p g (suc a) ≡ 1 → power p g (suc b) ≡ 1 → Smaller f → (a < b) ⊎ (b ≤ a) → Common (suc a) (suc b)
  euclid_step f a b h k l rest (inl low) =
      let r = rest (suc a) (b - a) (omega arith) k (sym (add_one (suc a) (b - a) k) ∙ ap (power p g) (omega arith) ∙ l) in
      (r.0, r.1, (r.1.0 + r.2.0, omega (arith, r.1.1, r.2.1, mul-add r.0 r.1.0 r.2.0)), r.3)
  euclid_step f a b h k l rest (inr low) =
      let r = rest (a - b) (suc b) (omega arith) (sym (add_one (suc b) (a - b) l) ∙ ap (power p g) (omega arith) ∙ k) l in
      (r.0, (r.1.0 + r.2.0, omega (arith, r.1.1, r.2.1, mul-add r.0 r.1.0 r.2.0)), r.2, r.3)

  euclid : (f : ℕ) → Smaller f
  euclid f zero b h k l = (b, (0, sym (mul-zero b)), (1, sym (mul-one b)), l)
  euclid f (suc a) zero h k l = (suc a, (1, sym (mul-one (suc a))), (0, sym (mul-zero (suc a))), k)
  euclid zero (suc a) (suc b) h k l = absurd (omega arith)
  euclid (suc f) (suc a) (suc b) h k l = euclid_step f a b h k l (euclid f) (cases_lt a b)

  -- ---- no smaller exponent

  -- c is prime to each q, and so to their product
  free_all : (n e c : ℕ) (qs : List ℕ) → n ≡ e * c → power p g e ≡ 1 → 0 < n → EachPrime qs → EachProper p g n qs → Free c (product qs)
  free_all n e c [] h k pos primes proper x d = (d.0, sym (one-mul x) ∙ d.1)
  free_all n e c (q ∷ qs) h k pos primes proper x d =
      free_all n e c qs h k pos primes.1 proper.1 x
      (free_of c q primes.0 (λ z. proper.0 (ap (power p g) (quotient z) ∙ many_one e (c / q) k)) (product qs * x) (d.0, sym (mul_assoc q (product qs) x) ∙ d.1))
    where
      above : 0 < q
      above = omega (arith, primes.0.above_one)

      quotient : c % q ≡ 0 → n / q ≡ e * (c / q)
      quotient z = ap (λ t. t / q) (h ∙ ap (λ t. e * t) (sym (omega (arith, div-add-mod' c q, z))) ∙ sym (mul_assoc e (c / q) q)) ∙ mul-div_cancel (e * (c / q)) above

  no_smaller : (n : ℕ) (qs : List ℕ) → n ≡ product qs → EachPrime qs → EachProper p g n qs → power p g n ≡ 1 → (k : ℕ) → 0 < k → k < n → power p g k ≢ 1
  no_smaller n qs h primes proper full k pos low one =
      let r = euclid (n + k) n k (omega arith) full one in
      let d = free_all n r.0 r.1.0 qs r.1.1 r.3 (omega arith) primes proper 1 (r.0, mul-one (product qs) ∙ sym h ∙ r.1.1 ∙ mul_comm r.0 r.1.0) in
      clash r.0 r.1.0 r.2.0 d.0 r.1.1 r.2.1 d.1
    where
      clash : (e c t y : ℕ) → n ≡ e * c → k ≡ e * t → 1 ≡ c * y → ⊥
      clash e c zero y a b z = absurd (omega (arith, mul-zero e))
      clash e c (suc t) y a b z = unit c y a z
        where
          unit : (c y : ℕ) → n ≡ e * c → 1 ≡ c * y → ⊥
          unit zero y a z = absurd (omega (arith, zero-mul y))
          unit (suc zero) y a z = absurd (omega (arith, mul-suc e t))
          unit (suc (suc c)) zero a z = absurd (omega (arith, mul-zero (suc (suc c))))
          unit (suc (suc c)) (suc y) a z = absurd (omega (arith, mul-suc (suc (suc c)) y))

-- ---- a function from the numbers below n to themselves that takes no value twice takes each

abbrev Below : ℕ → (ℕ → ℕ) → Type 0
Below n f = (x : ℕ) → x < n → f x < n

abbrev Apart : ℕ → (ℕ → ℕ) → Type 0
Apart n f = (x y : ℕ) → x < y → y < n → f x ≢ f y

abbrev Hits : ℕ → (ℕ → ℕ) → ℕ → Type 0
Hits n f z = (x : ℕ) × (x < n) × (f x ≡ z)

-- f with n replaced by w
moved : (ℕ → ℕ) → ℕ → ℕ → ℕ → ℕ
moved f n w x = elim (eqb (f x) n) [ true ↦ w | false ↦ f x ]

moved_tells : (f : ℕ → ℕ) (n w x : ℕ) → ((f x ≡ n) × (moved f n w x ≡ w)) ⊎ ((f x ≢ n) × (moved f n w x ≡ f x))
unfolding moved
moved_tells f n w x = go (eqb (f x) n) refl
  where
    go : (b : Bool) → eqb (f x) n ≡ b → ((f x ≡ n) × ((elim b [ true ↦ w | false ↦ f x ]) ≡ w)) ⊎ ((f x ≢ n) × ((elim b [ true ↦ w | false ↦ f x ]) ≡ f x))
    go true h = inl (eqb-true (f x) n h, refl)
    go false h = inr (eqb-false (f x) n h, refl)

moved_below : (n : ℕ) (f : ℕ → ℕ) → Below (suc n) f → Apart (suc n) f → Below n (moved f n (f n))
moved_below n f below apart x low = go (moved_tells f n (f n) x)
  where
    go : ((f x ≡ n) × (moved f n (f n) x ≡ f n)) ⊎ ((f x ≢ n) × (moved f n (f n) x ≡ f x)) → moved f n (f n) x < n
    go (inl h) = omega (arith, h.1, below n, apart_here)
      where
        apart_here : f n ≢ n
        apart_here e = apart x n low (omega arith) (h.0 ∙ sym e)
    go (inr h) = omega (arith, h.0, h.1, below x)

moved_apart : (n : ℕ) (f : ℕ → ℕ) → Apart (suc n) f → Apart n (moved f n (f n))
moved_apart n f apart x y low high e = go (moved_tells f n (f n) x) (moved_tells f n (f n) y)
  where
    go : ((f x ≡ n) × (moved f n (f n) x ≡ f n)) ⊎ ((f x ≢ n) × (moved f n (f n) x ≡ f x))
        → ((f y ≡ n) × (moved f n (f n) y ≡ f n)) ⊎ ((f y ≢ n) × (moved f n (f n) y ≡ f y)) → ⊥
    go (inl h) (inl k) = apart x y low (omega arith) (h.0 ∙ sym k.0)
    go (inl h) (inr k) = apart y n high (omega arith) (sym k.1 ∙ sym e ∙ h.1)
    go (inr h) (inl k) = apart x n (omega arith) (omega arith) (sym h.1 ∙ e ∙ k.1)
    go (inr h) (inr k) = apart x y low (omega arith) (sym h.1 ∙ e ∙ k.1)

-- one case of the step: what is hit by the shorter function
found : (n z : ℕ) (f : ℕ → ℕ) → Apart (suc n) f → (z ≡ f n → ⊥) → Hits n (moved f n (f n)) z → Hits (suc n) f z
found n z f apart other h = go (moved_tells f n (f n) h.0)
  where
    go : ((f h.0 ≡ n) × (moved f n (f n) h.0 ≡ f n)) ⊎ ((f h.0 ≢ n) × (moved f n (f n) h.0 ≡ f h.0)) → Hits (suc n) f z
    go (inl k) = absurd (other (sym h.2 ∙ k.1))
    go (inr k) = (h.0, omega (arith, h.1), sym k.1 ∙ h.2)

-- n itself is hit where the shorter function takes f n
top_found : (n : ℕ) (f : ℕ → ℕ) → Apart (suc n) f → Hits n (moved f n (f n)) (f n) → Hits (suc n) f n
top_found n f apart h = go (moved_tells f n (f n) h.0)
  where
    go : ((f h.0 ≡ n) × (moved f n (f n) h.0 ≡ f n)) ⊎ ((f h.0 ≢ n) × (moved f n (f n) h.0 ≡ f h.0)) → Hits (suc n) f n
    go (inl k) = (h.0, omega (arith, h.1), k.0)
    go (inr k) = absurd (apart h.0 n h.1 (omega arith) (sym k.1 ∙ h.2))

pub pigeons : (n : ℕ) (f : ℕ → ℕ) → Below n f → Apart n f → (z : ℕ) → z < n → Hits n f z
pigeons zero f below apart z low = absurd (omega arith)
pigeons (suc n) f below apart z low = go (pigeons n (moved f n (f n)) (moved_below n f below apart) (moved_apart n f apart)) (cases_eq z (f n)) (cases_eq z n)
  where
    go : ((y : ℕ) → y < n → Hits n (moved f n (f n)) y) → (z ≡ f n) ⊎ (z ≡ f n → ⊥) → (z ≡ n) ⊎ (z ≡ n → ⊥) → Hits (suc n) f z
    go before (inl e) k = (n, omega arith, sym e)
    go before (inr d) (inl e) = subst (Hits (suc n) f) (sym e) (top_found n f apart (before (f n) (omega (arith, below n, d, e))))
    go before (inr d) (inr k) = found n z f apart d (before z (omega (arith, k)))

-- ---- LUCAS

module _ (p g : ℕ) (big : 1 < p) where
  -- the exponents below n give each number from 1 to n
  logarithm : (n : ℕ) → p ≡ suc n → power p g n ≡ 1 → ((k : ℕ) → 0 < k → k < n → power p g k ≢ 1) → (a : ℕ) → a % p ≢ 0 → (k : ℕ) × (k < n) × (power p g k ≡ a % p)
  logarithm n size full least a nonzero =
      let h = pigeons n (λ k. pred (power p g k)) below apart (pred (a % p)) (omega (arith, mod-lt a {m = p} (omega arith), nonzero)) in
      (h.0, h.1, omega (arith, h.2, nonzero, positive h.0 h.1))
    where
      turned : (k : ℕ) → k < n → power p g k * power p g (n - k) % p ≡ 1
      turned k low = sym (power-add p g k (n - k)) ∙ ap (power p g) (omega arith) ∙ full

      positive : (k : ℕ) → k < n → power p g k ≢ 0
      positive k low e = absurd (omega (arith, sym (turned k low) ∙ ap (λ t. t * power p g (n - k) % p) e ∙ ap (λ t. t % p) (zero-mul (power p g (n - k))) ∙ mod-eq_of_lt (omega arith)))

      within : (k : ℕ) → power p g k < p
      within k = subst (λ t. t < p) (power_mod_self p g k) (mod-lt (power p g k) {m = p} (omega arith))

      below : Below n (λ k. pred (power p g k))
      below k low = omega (arith, within k, positive k low)

      apart : Apart n (λ k. pred (power p g k))
      apart i j low high e = least (j - i) (omega arith) (omega arith)
          (sym (add_one p g big n (j - i) full)
          ∙ ap (power p g) (omega arith)
          ∙ power-add p g j (n - i)
          ∙ ap (λ t. t * power p g (n - i) % p) (omega (arith, e, positive i, positive j high))
          ∙ turned i (omega arith))

  -- THE TEST, and what it gives: p is prime, and a number that p does not divide is 1 to the p - 1
  pub lucas : (n : ℕ) (qs : List ℕ) → p ≡ suc n → n ≡ product qs → EachPrime qs → EachProper p g n qs → power p g n ≡ 1 → IsPrime p
  lucas n qs size h primes proper full = record {
    above_one = big;
    inverse = λ a nonzero.
        let k = logarithm n size full (no_smaller p g big n qs h primes proper full) a nonzero in
        (power p g (n - k.0), sym (mul-mod_second (power p g (n - k.0)) a p) ∙ ap (λ t. power p g (n - k.0) * t % p) (sym k.2) ∙ sym (power-add p g (n - k.0) k.0) ∙ ap (power p g) (omega (arith, k.1)) ∙ full);
  }

  pub fermat : (n : ℕ) (qs : List ℕ) → p ≡ suc n → n ≡ product qs → EachPrime qs → EachProper p g n qs → power p g n ≡ 1 → (a : ℕ) → a % p ≢ 0 → power p a n ≡ 1
  fermat n qs size h primes proper full a nonzero =
      let k = logarithm n size full (no_smaller p g big n qs h primes proper full) a nonzero in
      sym (power-base p a n) ∙ ap (λ t. power p t n) (sym k.2) ∙ power-mul p g k.0 n ∙ ap (power p g) (mul_comm k.0 n) ∙ many_one p g big n k.0 full
