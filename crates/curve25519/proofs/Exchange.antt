-- Two scalars in either order: the law of a key exchange by the ladder.
use Rattle.std.proofs.Common.{◌≡◌, ℕ, zero, suc, ◌+◌, ◌*◌, ◌%◌, ◌^◌, ◌<◌, [], ◌∷◌, refl, sym, ap, ap₂, subst, ◌∙◌, ◌≢◌, ◌⊎◌, inl, inr, mul_comm, mul_assoc, mod-eq_of_lt, mul-zero, one-mul, arith}
use Rattle.std.proofs.lemmas.Nat.{mul-mod_first, mul-mod_second}
use Rattle.curve25519.specs.Ladder.{exchange as exchange_of}
use Rattle.curve25519.proofs.Identities.{Term, v, i, o, ◌⊕◌, ◌⊗◌, ◌⊖◌, lookup, follows, -◌}
use Rattle.curve25519.proofs.Field.{factor, not_product}
use Rattle.curve25519.proofs.Edwards.{Pair, below_y}
use Rattle.curve25519.proofs.Group.{Curve, On, ◌+ₚ◌, inverse_y, with_origin, origin, multiple, multiple_on, multiples_add, multiple-zero, multiple-suc, multiple-one, multiple-mul, multiple-mod}
use Rattle.curve25519.proofs.Prime.{IsPrime}
use Rattle.curve25519.proofs.Ladder.{Stands, Start, halves, root_nil, ladder, ladder_holds}

module _ (c : Curve) where
  open c use {field, d, s, root, not_square}
  open c.field.over.numbers use {Of, nil, one, add, mul, neg}

  abbrev rhs : Term → Term → Term → Term
  rhs d x y = x ⊗ x ⊕ i ⊕ d ⊗ x ⊗ x ⊗ y ⊗ y

  one-d : add one d ≢ nil
  one-d e = not_square s (root ∙ follows field.over 1 (- i) (v 0) ((- i, i ⊕ v 0, o) ∷ []) refl (lookup field.over (d ∷ [])) (e, tt))

  flat_x : (p : Pair field) → On c p → mul (mul p.0 p.0) (add one d) ≡ nil → p.0 ≡ nil
  flat_x p on e = root_nil c p.0 (factor field (add one d) (mul p.0 p.0) (field.over.laws.mul-comm (add one d) (mul p.0 p.0) ∙ e) one-d)

  at_top : (p : Pair field) → On c p → add one (neg p.1) ≡ nil → p ≡ origin c
  at_top p on e =
      ap₂ (λ x y. (x, y))
      (flat_x p on (follows field.over 3 (v 0 ⊗ v 0 ⊗ (i ⊕ v 2)) o ((- i, v 1 ⊗ v 1, rhs (v 2) (v 0) (v 1)) ∷ ((v 2 ⊗ v 0 ⊗ v 0 ⊖ i) ⊗ (i ⊕ v 1), i ⊖ v 1, o) ∷ []) refl (lookup field.over (p.0 ∷ p.1 ∷ d ∷ [])) (on, (e, tt))))
      (follows field.over 1 (v 0) i ((- i, i ⊖ v 0, o) ∷ []) refl (lookup field.over (p.1 ∷ [])) (e, tt))

  at_bottom : (p : Pair field) → On c p → add one p.1 ≡ nil → ◌+ₚ◌ c p p ≡ origin c
  at_bottom p on e =
      let x : p.0 ≡ nil = flat_x p on (follows field.over 3 (v 0 ⊗ v 0 ⊗ (i ⊕ v 2)) o ((- i, v 1 ⊗ v 1, rhs (v 2) (v 0) (v 1)) ∷ ((v 2 ⊗ v 0 ⊗ v 0 ⊖ i) ⊗ (i ⊖ v 1), i ⊕ v 1, o) ∷ []) refl (lookup field.over (p.0 ∷ p.1 ∷ d ∷ [])) (on, (e, tt))) in
      ap₂ (λ x y. (x, y))
      (follows field.over 3 ((v 0 ⊗ v 1 ⊕ v 1 ⊗ v 0) ⊗ v 2) o (((v 1 ⊕ v 1) ⊗ v 2, v 0, o) ∷ []) refl (lookup field.over (p.0 ∷ p.1 ∷ field.over.numbers.inv (add one (mul (mul (mul (mul d p.0) p.0) p.1) p.1)) ∷ [])) (x, tt))
      (follows field.over 4 ((v 1 ⊗ v 1 ⊕ v 0 ⊗ v 0) ⊗ v 3) i
      ((i, (i ⊖ v 2 ⊗ v 0 ⊗ v 0 ⊗ v 1 ⊗ v 1) ⊗ v 3, i) ∷ ((v 1 ⊖ i) ⊗ v 3, i ⊕ v 1, o) ∷ ((v 0 ⊕ v 2 ⊗ v 0 ⊗ v 1 ⊗ v 1) ⊗ v 3, v 0, o) ∷ []) refl
      (lookup field.over (p.0 ∷ p.1 ∷ d ∷ field.over.numbers.inv (below_y field d p p) ∷ [])) (inverse_y c p p on on, (e, (x, tt))))

  -- ---- a point of prime order

  pub record Base (b : Pair field) (l : ℕ) : Type 0 where
    pub on_curve : On c b
    pub prime : IsPrime l
    pub odd : 2 < l
    pub turns : multiple c b l ≡ origin c
    pub moves : b ≢ origin c

  of_origin : (n : ℕ) → multiple c (origin c) n ≡ origin c
  of_origin zero = multiple-zero c (origin c)
  of_origin (suc n) = multiple-suc c (origin c) n ∙ ap (λ p. ◌+ₚ◌ c p (origin c)) (of_origin n) ∙ with_origin c (origin c)

  away : (b : Pair field) (l n : ℕ) → Base b l → n % l ≢ 0 → multiple c b n ≢ origin c
  away b l n base h e =
      let u = base.prime.inverse n h in
      base.moves (sym (multiple-one c b) ∙ ap (multiple c b) (sym u.1) ∙ multiple-mod c b base.on_curve l (u.0 * n) base.turns ∙ sym (multiple-mul c b base.on_curve n u.0) ∙ ap (λ p. multiple c p u.0) e ∙ of_origin u.0)

  twice_nonzero : (l n : ℕ) → IsPrime l → 2 < l → n % l ≢ 0 → (n + n) % l ≢ 0
  twice_nonzero l n prime odd h e =
      let u = prime.inverse n h in
      absurd (omega (arith, sym (mod-eq_of_lt odd) ∙ ap (λ t. 2 * t % l) (sym u.1) ∙ mul-mod_second 2 (u.0 * n) l ∙ ap (λ t. t % l) (swap u.0) ∙ sym (mul-mod_second u.0 (n + n) l) ∙ ap (λ t. u.0 * t % l) e ∙ ap (λ t. t % l) (mul-zero u.0) ∙ mod-eq_of_lt (omega (arith, odd))))
    where
      swap : (u : ℕ) → 2 * (u * n) ≡ u * (n + n)
      swap u = omega arith

  product_nonzero : (l m n : ℕ) → IsPrime l → m % l ≢ 0 → n % l ≢ 0 → m * n % l ≢ 0
  product_nonzero l m n prime h k e =
      let u = prime.inverse m h in
      k (ap (λ t. t % l) (sym (one-mul n)) ∙ ap (λ t. t * n % l) (sym u.1) ∙ mul-mod_first (u.0 * m) n l ∙ ap (λ t. t % l) (mul_assoc u.0 m n) ∙ sym (mul-mod_second u.0 (m * n) l) ∙ ap (λ t. u.0 * t % l) e ∙ ap (λ t. t % l) (mul-zero u.0) ∙ mod-eq_of_lt (omega (arith, prime.above_one)))

  abbrev pub Proper : Pair field → Type 0
  Proper p = (add one p.1 ≢ nil) × (add one (neg p.1) ≢ nil)

  proper : (b : Pair field) (l n : ℕ) → Base b l → n % l ≢ 0 → Proper (multiple c b n)
  proper b l n base h = (
    (λ e. away b l (n + n) base (twice_nonzero l n base.prime base.odd h) (sym (multiples_add c b base.on_curve n n) ∙ at_bottom (multiple c b n) (multiple_on c b base.on_curve n) e)),
    (λ e. away b l n base h (at_top (multiple c b n) (multiple_on c b base.on_curve n) e)),
  )

  -- ---- u coordinates

  pub mont : Pair field → Of
  mont p = mul (add one p.1) (field.over.numbers.inv (add one (neg p.1)))

  pub mont_of : (p : Pair field) → mont p ≡ mul (add one p.1) (field.over.numbers.inv (add one (neg p.1)))
  unfolding mont
  mont_of p = refl

  start_of : (p : Pair field) → On c p → Proper p → Start c p (mont p)
  unfolding mont
  start_of p on h = record {
    on = on;
    stands = follows field.over 2 ((i ⊕ v 0) ⊗ v 1 ⊗ (i ⊖ v 0)) (i ⊕ v 0) ((i ⊕ v 0, (i ⊖ v 0) ⊗ v 1, i) ∷ []) refl (lookup field.over (p.1 ∷ field.over.numbers.inv (add one (neg p.1)) ∷ [])) (field.mul-inv (add one (neg p.1)) h.1, tt);
    nonzero = λ e. h.0 (follows field.over 2 (i ⊕ v 0) o ((i ⊖ v 0, (i ⊕ v 0) ⊗ v 1, o) ∷ (- (i ⊕ v 0), (i ⊖ v 0) ⊗ v 1, i) ∷ []) refl (lookup field.over (p.1 ∷ field.over.numbers.inv (add one (neg p.1)) ∷ [])) (e, (field.mul-inv (add one (neg p.1)) h.1, tt)));
  }

  -- X / Z
  reads : (X Z : Of) (p : Pair field) → Stands c X Z p → add one (neg p.1) ≢ nil → mul X (field.over.numbers.inv Z) ≡ mont p
  unfolding mont
  reads X Z p st h =
      let z≢nil : Z ≢ nil = λ e. not_product field (add X Z) (add one (neg p.1)) st.0 h
      (follows field.over 3 ((v 0 ⊕ v 1) ⊗ (i ⊖ v 2)) o ((i, v 0 ⊖ v 1, v 2 ⊗ (v 0 ⊕ v 1)) ∷ (i ⊕ i, v 1, o) ∷ []) refl (lookup field.over (X ∷ Z ∷ p.1 ∷ [])) (st.1, (e, tt))) in
      follows field.over 5 (v 0 ⊗ v 3) ((i ⊕ v 2) ⊗ v 4)
      ((v 3 ⊗ v 4, v 0 ⊖ v 1, v 2 ⊗ (v 0 ⊕ v 1)) ∷ (- (v 0 ⊗ v 3), (i ⊖ v 2) ⊗ v 4, i) ∷ ((i ⊕ v 2) ⊗ v 4, v 1 ⊗ v 3, i) ∷ []) refl
      (lookup field.over (X ∷ Z ∷ p.1 ∷ field.over.numbers.inv Z ∷ field.over.numbers.inv (add one (neg p.1)) ∷ [])) (st.1, (field.mul-inv (add one (neg p.1)) h, (field.mul-inv Z z≢nil, tt)))

  abbrev pub exchange : Of → ℕ → ℕ → Of → Of
  exchange = exchange_of field.over.numbers

  pub exchange_is : (k : Of) (f n : ℕ) (p : Pair field) → On c p → Proper p → mul k (add one d) ≡ neg d → n < 2 ^ f → Proper (multiple c p n) → exchange k f n (mont p) ≡ mont (multiple c p n)
  unfolding exchange_of
  exchange_is k f n p on h law low h' = reads (ladder c k (mont p) f n).0 (ladder c k (mont p) f n).1 (multiple c p n) (ladder_holds c k (mont p) p f n (start_of p on h) law low).0 h'.1

  -- at the neutral point Z is 0, and so are both sides where the inverse of 0 is
  reads_nil : field.over.numbers.inv nil ≡ nil → (X Z : Of) (p : Pair field) → Stands c X Z p → add one (neg p.1) ≡ nil → mul X (field.over.numbers.inv Z) ≡ mont p
  unfolding mont
  reads_nil none X Z p st e =
      let z : Z ≡ nil = halves c Z (follows field.over 3 (v 1 ⊕ v 1) o ((v 0 ⊕ v 1, i ⊖ v 2, o) ∷ (- i, v 0 ⊖ v 1, v 2 ⊗ (v 0 ⊕ v 1)) ∷ []) refl (lookup field.over (X ∷ Z ∷ p.1 ∷ [])) (e, (st.1, tt))) in
      ap (λ t. mul X (field.over.numbers.inv t)) z ∙ nothing X ∙ sym (ap (λ t. mul (add one p.1) (field.over.numbers.inv t)) e ∙ nothing (add one p.1))
    where
      nothing : (x : Of) → mul x (field.over.numbers.inv nil) ≡ nil
      nothing x = ap (mul x) none ∙ field.over.laws.mul-nil x

  reads_any : field.over.numbers.inv nil ≡ nil → (X Z : Of) (p : Pair field) → Stands c X Z p → mul X (field.over.numbers.inv Z) ≡ mont p
  reads_any none X Z p st = go (field.decide (add one (neg p.1)) nil)
    where
      go : (add one (neg p.1) ≡ nil) ⊎ (add one (neg p.1) ≢ nil) → mul X (field.over.numbers.inv Z) ≡ mont p
      go (inl e) = reads_nil none X Z p st e
      go (inr h) = reads X Z p st h

  pub exchange_any : field.over.numbers.inv nil ≡ nil → (k : Of) (f n : ℕ) (p : Pair field) → On c p → Proper p → mul k (add one d) ≡ neg d → n < 2 ^ f → exchange k f n (mont p) ≡ mont (multiple c p n)
  unfolding exchange_of
  exchange_any none k f n p on h law low = reads_any none (ladder c k (mont p) f n).0 (ladder c k (mont p) f n).1 (multiple c p n) (ladder_holds c k (mont p) p f n (start_of p on h) law low).0

  -- THE LAW OF THE EXCHANGE
  pub exchanges : (k : Of) (f g : ℕ) (b : Pair field) (l m n : ℕ) → Base b l → mul k (add one d) ≡ neg d → m < 2 ^ f → n < 2 ^ g → m % l ≢ 0 → n % l ≢ 0
      → exchange k f m (exchange k g n (mont b)) ≡ mont (multiple c b (m * n))
  exchanges k f g b l m n base law low low' h h' =
      ap (exchange k f m) (exchange_is k g n b base.on_curve first law low' (proper b l n base h'))
      ∙ exchange_is k f m (multiple c b n) (multiple_on c b base.on_curve n) (proper b l n base h') law low (subst Proper (sym (multiple-mul c b base.on_curve n m)) (proper b l (m * n) base (product_nonzero l m n base.prime h h')))
      ∙ ap mont (multiple-mul c b base.on_curve n m)
    where
      first : Proper b
      first = subst Proper (multiple-one c b) (proper b l 1 base (λ e. absurd (omega (arith, sym (mod-eq_of_lt base.prime.above_one) ∙ e))))

  pub commutes : (k : Of) (f : ℕ) (b : Pair field) (l m n : ℕ) → Base b l → mul k (add one d) ≡ neg d → m < 2 ^ f → n < 2 ^ f → m % l ≢ 0 → n % l ≢ 0
      → exchange k f m (exchange k f n (mont b)) ≡ exchange k f n (exchange k f m (mont b))
  commutes k f b l m n base law low low' h h' =
      exchanges k f f b l m n base law low low' h h' ∙ ap (λ t. mont (multiple c b t)) (mul_comm m n) ∙ sym (exchanges k f f b l n m base law low' low h' h)

  -- and it gives no 0
  pub exchanges_nonzero : (k : Of) (f g : ℕ) (b : Pair field) (l m n : ℕ) → Base b l → mul k (add one d) ≡ neg d → m < 2 ^ f → n < 2 ^ g → m % l ≢ 0 → n % l ≢ 0
      → exchange k f m (exchange k g n (mont b)) ≢ nil
  exchanges_nonzero k f g b l m n base law low low' h h' e =
      let start = start_of (multiple c b (m * n)) (multiple_on c b base.on_curve (m * n)) (proper b l (m * n) base (product_nonzero l m n base.prime h h')) in
      start.nonzero (sym (exchanges k f g b l m n base law low low' h h') ∙ e)

  pub mont_is : (p : Pair field) (u : Of) → mul u (add one (neg p.1)) ≡ add one p.1 → add one (neg p.1) ≢ nil → mont p ≡ u
  unfolding mont
  mont_is p u e h = follows field.over 3 ((i ⊕ v 0) ⊗ v 2) (v 1) ((- (v 2), v 1 ⊗ (i ⊖ v 0), i ⊕ v 0) ∷ (v 1, (i ⊖ v 0) ⊗ v 2, i) ∷ []) refl (lookup field.over (p.1 ∷ u ∷ field.over.numbers.inv (add one (neg p.1)) ∷ [])) (e, (field.mul-inv (add one (neg p.1)) h, tt))
