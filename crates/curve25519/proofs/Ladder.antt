-- The Montgomery ladder of RFC 7748 computes multiples.
use Rattle.std.proofs.Common.{◌≡◌, ℕ, zero, suc, ◌+◌, ◌*◌, ◌/◌, ◌%◌, ◌^◌, ◌<◌, [], ◌∷◌, refl, sym, ap, ap₂, subst, ◌∙◌, ◌≢◌, ◌⊎◌, inl, inr, arith}
use Rattle.curve25519.specs.Ladder.{State as State_of, ladder_step as step_of, ladder as ladder_of}
use Rattle.curve25519.proofs.Identities.{Term, v, i, o, ◌⊕◌, ◌⊗◌, ◌⊖◌, lookup, ring, follows, -◌}
use Rattle.curve25519.proofs.Field.{factor, cancel_factor, not_product}
use Rattle.curve25519.proofs.Edwards.{Pair, cross, above_y, below_x, below_y, below_x≢nil, below_y≢nil, one≢nil}
use Rattle.curve25519.proofs.Group.{Curve, On, ◌+ₚ◌, stays, inverse_y, associates, with_origin, commutes_here, origin, multiple, multiple_on, multiples_add, multiple-zero, multiple-suc, multiple-one}

module _ (c : Curve) where
  open c use {field, d, s, root, not_square}
  open c.field.over.numbers use {Of, nil, one, add, mul, neg}

  -- (X : Z) stands for the point: y is (X - Z) / (X + Z)
  abbrev pub Stands : Of → Of → Pair field → Type 0
  Stands X Z p = (add X Z ≢ nil) × (add X (neg Z) ≡ mul p.1 (add X Z))

  -- a is X + Z and b is X - Z
  abbrev dx : Of → Of → Of
  dx a b = mul (mul a a) (mul b b)

  abbrev span : Of → Of → Of
  span a b = add (mul a a) (neg (mul b b))

  abbrev dz : Of → Of → Of → Of
  dz k a b = mul (span a b) (add (mul a a) (mul k (span a b)))

  -- a 0, x 1, y 2, d 3, k 4
  abbrev tB : Term
  tB = v 2 ⊗ v 0

  abbrev tE : Term
  tE = v 0 ⊗ v 0 ⊖ tB ⊗ tB

  abbrev tX : Term
  tX = v 0 ⊗ v 0 ⊗ (tB ⊗ tB)

  abbrev tZ : Term
  tZ = tE ⊗ (v 0 ⊗ v 0 ⊕ v 4 ⊗ tE)

  abbrev rhs : Term → Term → Term → Term
  rhs d x y = x ⊗ x ⊕ i ⊕ d ⊗ x ⊗ x ⊗ y ⊗ y

  abbrev a4 : Term
  a4 = v 0 ⊗ v 0 ⊗ (v 0 ⊗ v 0)

  double_sum : (a k : Of) (p : Pair field) → On c p → mul k (add one d) ≡ neg d
      → mul (add (dx a (mul p.1 a)) (dz k a (mul p.1 a))) (add one (neg (mul d (mul p.0 p.0)))) ≡ mul (mul (mul a a) (mul a a)) (below_y field d p p)
  double_sum a k p on h =
      follows field.over 5 ((tX ⊕ tZ) ⊗ (i ⊖ v 3 ⊗ (v 1 ⊗ v 1))) (a4 ⊗ (i ⊖ v 3 ⊗ v 1 ⊗ v 1 ⊗ v 2 ⊗ v 2))
      ((a4 ⊗ (v 2 ⊗ v 2 ⊖ i) ⊗ v 4, v 2 ⊗ v 2, rhs (v 3) (v 1) (v 2)) ∷ (a4 ⊗ (v 2 ⊗ v 2 ⊖ i) ⊗ v 1 ⊗ v 1, v 4 ⊗ (i ⊕ v 3), - (v 3)) ∷ []) refl
      (lookup field.over (a ∷ p.0 ∷ p.1 ∷ d ∷ k ∷ [])) (on, (h, tt))

  double_difference : (a k : Of) (p : Pair field) → On c p → mul k (add one d) ≡ neg d
      → mul (add (dx a (mul p.1 a)) (neg (dz k a (mul p.1 a)))) (below_y field d p p) ≡ mul (above_y field p p) (add (dx a (mul p.1 a)) (dz k a (mul p.1 a)))
  double_difference a k p on h =
      follows field.over 5 ((tX ⊖ tZ) ⊗ (i ⊖ v 3 ⊗ v 1 ⊗ v 1 ⊗ v 2 ⊗ v 2)) ((v 2 ⊗ v 2 ⊕ v 1 ⊗ v 1) ⊗ (tX ⊕ tZ))
      ((a4 ⊗ (i ⊕ v 4 ⊗ (i ⊖ v 2 ⊗ v 2 ⊗ v 2 ⊗ v 2)), v 2 ⊗ v 2, rhs (v 3) (v 1) (v 2)) ∷ ((i ⊕ i) ⊗ a4 ⊗ v 1 ⊗ v 1 ⊗ v 2 ⊗ v 2 ⊗ (i ⊖ v 2 ⊗ v 2), v 4 ⊗ (i ⊕ v 3), - (v 3)) ∷ []) refl
      (lookup field.over (a ∷ p.0 ∷ p.1 ∷ d ∷ k ∷ [])) (on, (h, tt))

  -- e * l is m * s, and l * l' is 1: so e is (m * l') * s
  divide : (e l m s l' : Of) → mul e l ≡ mul m s → mul l l' ≡ one → e ≡ mul (mul m l') s
  divide e l m s l' h k = follows field.over 5 (v 0) (v 2 ⊗ v 4 ⊗ v 3) ((v 4, v 0 ⊗ v 1, v 2 ⊗ v 3) ∷ (- (v 0), v 1 ⊗ v 4, i) ∷ []) refl (lookup field.over (e ∷ l ∷ m ∷ s ∷ l' ∷ [])) (h, (k, tt))

  -- THE DOUBLING STEP
  doubles : (k X Z : Of) (p : Pair field) → On c p → mul k (add one d) ≡ neg d → Stands X Z p
      → Stands (dx (add X Z) (add X (neg Z))) (dz k (add X Z) (add X (neg Z))) (◌+ₚ◌ c p p)
  doubles k X Z p on h st =
      subst (λ b. Stands (dx (add X Z) b) (dz k (add X Z) b) (◌+ₚ◌ c p p)) (sym st.1) (
        (λ e. not_product field (mul (mul a a) (mul a a)) (below_y field d p p) (not_product field (mul a a) (mul a a) aa aa) (below_y≢nil field d s p p not_square root on on)
            (sym (double_sum a k p on h) ∙ ap (λ t. mul t (add one (neg (mul d (mul p.0 p.0))))) e ∙ ring field.over 1 (o ⊗ v 0) o refl (lookup field.over (add one (neg (mul d (mul p.0 p.0))) ∷ [])))),
        divide (add (dx a (mul p.1 a)) (neg (dz k a (mul p.1 a)))) (below_y field d p p) (above_y field p p) (add (dx a (mul p.1 a)) (dz k a (mul p.1 a))) (field.over.numbers.inv (below_y field d p p))
            (double_difference a k p on h) (inverse_y c p p on on),
      )
    where
      a : Of
      a = add X Z

      aa : mul a a ≢ nil
      aa = not_product field a a st.0 st.0

  -- ---- the difference

  negated : Pair field → Pair field
  negated p = (neg p.0, p.1)

  negated_on : (p : Pair field) → On c p → On c (negated p)
  unfolding negated
  negated_on p on = follows field.over 3 (v 1 ⊗ v 1) (rhs (v 2) (- (v 0)) (v 1)) ((i, v 1 ⊗ v 1, rhs (v 2) (v 0) (v 1)) ∷ []) refl (lookup field.over (p.0 ∷ p.1 ∷ d ∷ [])) (on, tt)

  cancels : (p : Pair field) → On c p → ◌+ₚ◌ c p (negated p) ≡ origin c
  unfolding negated
  cancels p on =
      ap₂ (λ x y. (x, y))
      (ring field.over 3 ((v 0 ⊗ v 1 ⊕ v 1 ⊗ (- (v 0))) ⊗ v 2) o refl (lookup field.over (p.0 ∷ p.1 ∷ field.over.numbers.inv (below_x field d p (neg p.0, p.1)) ∷ [])))
      (follows field.over 4 ((v 1 ⊗ v 1 ⊕ v 0 ⊗ (- (v 0))) ⊗ v 3) i
      ((v 3, v 1 ⊗ v 1, rhs (v 2) (v 0) (v 1)) ∷ (i, (i ⊖ v 2 ⊗ v 0 ⊗ (- (v 0)) ⊗ v 1 ⊗ v 1) ⊗ v 3, i) ∷ []) refl
      (lookup field.over (p.0 ∷ p.1 ∷ d ∷ field.over.numbers.inv (below_y field d p (neg p.0, p.1)) ∷ [])) (on, (inverse_y c p (negated p) on (negated_on p on), tt)))

  pub cancels_point : (p : Pair field) → On c p → ◌+ₚ◌ c p (neg p.0, p.1) ≡ origin c
  unfolding negated
  cancels_point = cancels

  difference : (p b : Pair field) → On c p → On c b → ◌+ₚ◌ c (◌+ₚ◌ c p b) (negated p) ≡ b
  difference p b on on' =
      ap (λ t. ◌+ₚ◌ c t (negated p)) (commutes_here c p b) ∙ associates c b p (negated p) on' on (negated_on p on) ∙ ap (◌+ₚ◌ c b) (cancels p on) ∙ with_origin c b

  -- q is p + b: what that says of b's second coordinate
  second : (p q b : Pair field) → On c p → On c b → q ≡ ◌+ₚ◌ c p b → mul b.1 (add one (cross field d p q)) ≡ add (mul p.1 q.1) (neg (mul p.0 q.0))
  unfolding negated
  second p q b on on' e =
      let on_q : On c q = subst (On c) (sym e) (stays c p b on on') in
      let h : ◌+ₚ◌ c q (negated p) ≡ b = ap (λ t. ◌+ₚ◌ c t (negated p)) e ∙ difference p b on on' in
      follows field.over 7 (v 5 ⊗ (i ⊕ v 4 ⊗ v 0 ⊗ v 2 ⊗ v 1 ⊗ v 3)) (v 1 ⊗ v 3 ⊖ v 0 ⊗ v 2)
      ((- (i ⊕ v 4 ⊗ v 0 ⊗ v 2 ⊗ v 1 ⊗ v 3), (v 3 ⊗ v 1 ⊕ v 2 ⊗ (- (v 0))) ⊗ v 6, v 5)
      ∷ (v 1 ⊗ v 3 ⊖ v 0 ⊗ v 2, (i ⊖ v 4 ⊗ v 2 ⊗ (- (v 0)) ⊗ v 3 ⊗ v 1) ⊗ v 6, i) ∷ []) refl
      (lookup field.over (p.0 ∷ p.1 ∷ q.0 ∷ q.1 ∷ d ∷ b.1 ∷ field.over.numbers.inv (below_y field d q (neg p.0, p.1)) ∷ []))
      (ap (λ (t : Pair field). t.1) h, (inverse_y c q (negated p) on_q (negated_on p on), tt))

  -- ---- the adding step: x 0, y 1, x' 2, y' 3, d 4, t 5, u 6
  abbrev tD : Term
  tD = v 4 ⊗ v 0 ⊗ v 2 ⊗ v 1 ⊗ v 3

  abbrev tM : Term
  tM = v 1 ⊗ v 3 ⊕ v 0 ⊗ v 2

  abbrev tN : Term
  tN = v 1 ⊗ v 3 ⊖ v 0 ⊗ v 2

  abbrev tS : Term
  tS = (v 3 ⊕ v 1) ⊗ (v 3 ⊕ v 1)

  abbrev tT : Term
  tT = (v 3 ⊖ v 1) ⊗ (v 3 ⊖ v 1)

  add_core : (p q : Pair field) (t u : Of) → On c p → On c q → mul t (add one (cross field d p q)) ≡ add (mul p.1 q.1) (neg (mul p.0 q.0)) → mul u (add one (neg t)) ≡ add one t
      → mul (mul (mul (add q.1 p.1) (add q.1 p.1)) (add (below_y field d p q) (neg (above_y field p q)))) (mul (add one (neg t)) (add one (cross field d p q)))
      ≡ mul (mul (mul u (mul (add q.1 (neg p.1)) (add q.1 (neg p.1)))) (add (below_y field d p q) (above_y field p q))) (mul (add one (neg t)) (add one (cross field d p q)))
  add_core p q t u on on' h k =
      follows field.over 7 (tS ⊗ (i ⊖ tD ⊖ tM) ⊗ ((i ⊖ v 5) ⊗ (i ⊕ tD))) (v 6 ⊗ tT ⊗ (i ⊖ tD ⊕ tM) ⊗ ((i ⊖ v 5) ⊗ (i ⊕ tD)))
      ((((i ⊕ i ⊕ i ⊕ i) ⊗ v 1 ⊗ v 2 ⊗ v 2 ⊗ v 3 ⊗ v 3 ⊗ v 3 ⊗ v 4 ⊕ (i ⊕ i ⊕ i ⊕ i) ⊗ v 1 ⊗ v 2 ⊗ v 2 ⊗ v 3), v 1 ⊗ v 1, rhs (v 4) (v 0) (v 1))
      ∷ (((i ⊕ i ⊕ i ⊕ i) ⊗ v 1 ⊗ v 1 ⊗ v 1 ⊗ v 3 ⊖ ((i ⊕ i ⊕ i ⊕ i) ⊗ v 1 ⊗ v 3)), v 3 ⊗ v 3, rhs (v 4) (v 2) (v 3))
      ∷ (- (tS ⊗ (i ⊖ tD ⊖ tM) ⊕ tT ⊗ (i ⊖ tD ⊕ tM)), v 5 ⊗ (i ⊕ tD), tN)
      ∷ (- (tT ⊗ (i ⊖ tD ⊕ tM) ⊗ (i ⊕ tD)), v 6 ⊗ (i ⊖ v 5), i ⊕ v 5) ∷ []) refl
      (lookup field.over (p.0 ∷ p.1 ∷ q.0 ∷ q.1 ∷ d ∷ t ∷ u ∷ [])) (on, (on', (h, (k, tt))))

  pub finite : (t u : Of) → mul u (add one (neg t)) ≡ add one t → add one (neg t) ≢ nil
  finite t u k e = field.two≢nil (follows field.over 2 (i ⊕ i) o ((i ⊕ v 1, i ⊖ v 0, o) ∷ (- i, v 1 ⊗ (i ⊖ v 0), i ⊕ v 0) ∷ []) refl (lookup field.over (t ∷ u ∷ [])) (e, (k, tt)))

  abbrev sx : Of → Of → Of → Of → Of
  sx a b y y' = mul (add (mul (mul y' b) a) (mul (mul y a) b)) (add (mul (mul y' b) a) (mul (mul y a) b))

  abbrev sz : Of → Of → Of → Of → Of → Of
  sz u a b y y' = mul u (mul (add (mul (mul y' b) a) (neg (mul (mul y a) b))) (add (mul (mul y' b) a) (neg (mul (mul y a) b))))

  -- a, b, y, y', u, l, m are 0 to 6
  scaled : (a b y y' u l m : Of) → mul (mul (add y' y) (add y' y)) (add l (neg m)) ≡ mul (mul u (mul (add y' (neg y)) (add y' (neg y)))) (add l m)
      → mul (add (sx a b y y') (neg (sz u a b y y'))) l ≡ mul m (add (sx a b y y') (sz u a b y y'))
  scaled a b y y' u l m h =
      let A : Term = v 3 ⊗ v 1 ⊗ v 0 in
      let B : Term = v 2 ⊗ v 0 ⊗ v 1 in
      follows field.over 7 (((A ⊕ B) ⊗ (A ⊕ B) ⊖ v 4 ⊗ ((A ⊖ B) ⊗ (A ⊖ B))) ⊗ v 5) (v 6 ⊗ ((A ⊕ B) ⊗ (A ⊕ B) ⊕ v 4 ⊗ ((A ⊖ B) ⊗ (A ⊖ B))))
      ((v 0 ⊗ v 0 ⊗ v 1 ⊗ v 1, (v 3 ⊕ v 2) ⊗ (v 3 ⊕ v 2) ⊗ (v 5 ⊖ v 6), v 4 ⊗ ((v 3 ⊖ v 2) ⊗ (v 3 ⊖ v 2)) ⊗ (v 5 ⊕ v 6)) ∷ []) refl
      (lookup field.over (a ∷ b ∷ y ∷ y' ∷ u ∷ l ∷ m ∷ [])) (h, tt)

  -- half of a number that is 0 twice
  pub halves : (x : Of) → add x x ≡ nil → x ≡ nil
  halves x e = factor field (add one one) x (ring field.over 1 ((i ⊕ i) ⊗ v 0) (v 0 ⊕ v 0) refl (lookup field.over (x ∷ [])) ∙ e) field.two≢nil

  pub root_nil : (x : Of) → mul x x ≡ nil → x ≡ nil
  root_nil x e = pick (field.decide x nil)
    where
      pick : (x ≡ nil) ⊎ (x ≢ nil) → x ≡ nil
      pick (inl h) = h
      pick (inr h) = factor field x x e h

  -- both second coordinates are 0: then u is
  flat : (p q : Pair field) (t u : Of) → On c p → On c q → mul t (add one (cross field d p q)) ≡ add (mul p.1 q.1) (neg (mul p.0 q.0)) → mul u (add one (neg t)) ≡ add one t
      → p.1 ≡ nil → q.1 ≡ nil → mul u (mul (add one (neg t)) (add one (neg t))) ≡ nil
  flat p q t u on on' h k e e' =
      let w : Term = v 5 ⊖ v 0 ⊗ v 2 in
      follows field.over 7 (v 6 ⊗ ((i ⊖ v 5) ⊗ (i ⊖ v 5))) o
      ((v 2 ⊗ v 2, v 1 ⊗ v 1, rhs (v 4) (v 0) (v 1))
      ∷ (- i, v 3 ⊗ v 3, rhs (v 4) (v 2) (v 3))
      ∷ (- w, v 5 ⊗ (i ⊕ tD), tN)
      ∷ (i ⊖ v 5, v 6 ⊗ (i ⊖ v 5), i ⊕ v 5)
      ∷ (- (w ⊗ (v 3 ⊖ v 5 ⊗ v 4 ⊗ v 0 ⊗ v 2 ⊗ v 3) ⊕ v 2 ⊗ v 2 ⊗ v 1 ⊗ (i ⊖ v 4 ⊗ v 0 ⊗ v 0)), v 1, o)
      ∷ (v 3 ⊗ (i ⊖ v 4 ⊗ v 2 ⊗ v 2), v 3, o) ∷ []) refl
      (lookup field.over (p.0 ∷ p.1 ∷ q.0 ∷ q.1 ∷ d ∷ t ∷ u ∷ [])) (on, (on', (h, (k, (e, (e', tt))))))

  -- what the adding step asks of the point b, whose u is the ladder's
  pub record Start (b : Pair field) (u : Of) : Type 0 where
    pub on : On c b
    pub stands : mul u (add one (neg b.1)) ≡ add one b.1
    pub nonzero : u ≢ nil

  add_scaled : (a a' u : Of) (p q b : Pair field) → Start b u → On c p → q ≡ ◌+ₚ◌ c p b
      → add (sx a a' p.1 q.1) (neg (sz u a a' p.1 q.1)) ≡ mul (◌+ₚ◌ c p q).1 (add (sx a a' p.1 q.1) (sz u a a' p.1 q.1))
  add_scaled a a' u p q b start on e =
      let on_q : On c q = subst (On c) (sym e) (stays c p b on start.on) in
      let h = second p q b on start.on e in
      divide (add (sx a a' p.1 q.1) (neg (sz u a a' p.1 q.1))) (below_y field d p q) (above_y field p q) (add (sx a a' p.1 q.1) (sz u a a' p.1 q.1)) (field.over.numbers.inv (below_y field d p q))
      (scaled a a' p.1 q.1 u (below_y field d p q) (above_y field p q)
      (cancel_factor field (mul (mul (add q.1 p.1) (add q.1 p.1)) (add (below_y field d p q) (neg (above_y field p q))))
      (mul (mul u (mul (add q.1 (neg p.1)) (add q.1 (neg p.1)))) (add (below_y field d p q) (above_y field p q)))
      (mul (add one (neg b.1)) (add one (cross field d p q)))
      (not_product field (add one (neg b.1)) (add one (cross field d p q)) (finite b.1 u start.stands) (below_x≢nil field d s p q not_square root on on_q))
      (add_core p q b.1 u on on_q h start.stands)))
      (inverse_y c p q on on_q)

  add_nonzero : (a a' u : Of) (p q b : Pair field) → Start b u → On c p → q ≡ ◌+ₚ◌ c p b → a ≢ nil → a' ≢ nil → add (sx a a' p.1 q.1) (sz u a a' p.1 q.1) ≢ nil
  add_nonzero a a' u p q b start on e na na' h =
      not_product field u (mul (add one (neg b.1)) (add one (neg b.1))) start.nonzero (not_product field (add one (neg b.1)) (add one (neg b.1)) (finite b.1 u start.stands) (finite b.1 u start.stands))
      (flat p q b.1 u on (subst (On c) (sym e) (stays c p b on start.on)) (second p q b on start.on e) start.stands (halves p.1 first) (halves q.1 last))
    where
      less : add (sx a a' p.1 q.1) (neg (sz u a a' p.1 q.1)) ≡ nil
      less = add_scaled a a' u p q b start on e ∙ ap (mul (◌+ₚ◌ c p q).1) h ∙ field.over.laws.mul-nil (◌+ₚ◌ c p q).1

      x_nil : sx a a' p.1 q.1 ≡ nil
      x_nil = halves (sx a a' p.1 q.1) (follows field.over 2 (v 0 ⊕ v 0) o ((i, v 0 ⊕ v 1, o) ∷ (i, v 0 ⊖ v 1, o) ∷ []) refl (lookup field.over (sx a a' p.1 q.1 ∷ sz u a a' p.1 q.1 ∷ [])) (h, (less, tt)))

      z_nil : sz u a a' p.1 q.1 ≡ nil
      z_nil = sym (ring field.over 1 (o ⊕ v 0) (v 0) refl (lookup field.over (sz u a a' p.1 q.1 ∷ []))) ∙ ap (λ t. add t (sz u a a' p.1 q.1)) (sym x_nil) ∙ h

      plus : add q.1 p.1 ≡ nil
      plus = factor field (mul a a') (add q.1 p.1)
          (ring field.over 4 (v 0 ⊗ v 1 ⊗ (v 3 ⊕ v 2)) (v 3 ⊗ v 1 ⊗ v 0 ⊕ v 2 ⊗ v 0 ⊗ v 1) refl (lookup field.over (a ∷ a' ∷ p.1 ∷ q.1 ∷ [])) ∙ root_nil (add (mul (mul q.1 a') a) (mul (mul p.1 a) a')) x_nil)
          (not_product field a a' na na')

      minus : add q.1 (neg p.1) ≡ nil
      minus = factor field (mul a a') (add q.1 (neg p.1))
          (ring field.over 4 (v 0 ⊗ v 1 ⊗ (v 3 ⊖ v 2)) (v 3 ⊗ v 1 ⊗ v 0 ⊖ v 2 ⊗ v 0 ⊗ v 1) refl (lookup field.over (a ∷ a' ∷ p.1 ∷ q.1 ∷ []))
          ∙ root_nil (add (mul (mul q.1 a') a) (neg (mul (mul p.1 a) a')))
          (factor field u (mul (add (mul (mul q.1 a') a) (neg (mul (mul p.1 a) a'))) (add (mul (mul q.1 a') a) (neg (mul (mul p.1 a) a')))) z_nil start.nonzero))
          (not_product field a a' na na')

      first : add p.1 p.1 ≡ nil
      first = follows field.over 2 (v 0 ⊕ v 0) o ((i, v 1 ⊕ v 0, o) ∷ (- i, v 1 ⊖ v 0, o) ∷ []) refl (lookup field.over (p.1 ∷ q.1 ∷ [])) (plus, (minus, tt))

      last : add q.1 q.1 ≡ nil
      last = follows field.over 2 (v 1 ⊕ v 1) o ((i, v 1 ⊕ v 0, o) ∷ (i, v 1 ⊖ v 0, o) ∷ []) refl (lookup field.over (p.1 ∷ q.1 ∷ [])) (plus, (minus, tt))

  -- ---- the ladder

  -- a b and a' b' are sum and difference of the two pairs
  abbrev pub join_x : Of → Of → Of → Of → Of
  join_x a b a' b' = mul (add (mul b' a) (mul b a')) (add (mul b' a) (mul b a'))

  abbrev pub join_z : Of → Of → Of → Of → Of → Of
  join_z u a b a' b' = mul u (mul (add (mul b' a) (neg (mul b a'))) (add (mul b' a) (neg (mul b a'))))

  adds : (u X Z X' Z' : Of) (p q b : Pair field) → Start b u → On c p → q ≡ ◌+ₚ◌ c p b → Stands X Z p → Stands X' Z' q
      → Stands (join_x (add X Z) (add X (neg Z)) (add X' Z') (add X' (neg Z'))) (join_z u (add X Z) (add X (neg Z)) (add X' Z') (add X' (neg Z'))) (◌+ₚ◌ c p q)
  adds u X Z X' Z' p q b start on e st st' =
      subst (λ t. Stands (join_x (add X Z) t (add X' Z') (add X' (neg Z'))) (join_z u (add X Z) t (add X' Z') (add X' (neg Z'))) (◌+ₚ◌ c p q)) (sym st.1)
      (subst (λ t. Stands (join_x (add X Z) (mul p.1 (add X Z)) (add X' Z') t) (join_z u (add X Z) (mul p.1 (add X Z)) (add X' Z') t) (◌+ₚ◌ c p q)) (sym st'.1)
      (add_nonzero (add X Z) (add X' Z') u p q b start on e st.0 st'.0, add_scaled (add X Z) (add X' Z') u p q b start on e))

  abbrev pub State : Type 0
  State = State_of field.over.numbers

  abbrev pub joined : Of → State → Of × Of
  joined u t = (join_x (add t.0 t.1) (add t.0 (neg t.1)) (add t.2 t.3) (add t.2 (neg t.3)), join_z u (add t.0 t.1) (add t.0 (neg t.1)) (add t.2 t.3) (add t.2 (neg t.3)))

  abbrev pub doubled : Of → Of → Of → Of × Of
  doubled k x z = (dx (add x z) (add x (neg z)), dz k (add x z) (add x (neg z)))

  -- a step, with no swap
  abbrev parts : Of → Of → ℕ → State → State
  parts k u zero t = ((doubled k t.0 t.1).0, (doubled k t.0 t.1).1, (joined u t).0, (joined u t).1)
  parts k u (suc n) t = ((joined u t).0, (joined u t).1, (doubled k t.2 t.3).0, (doubled k t.2 t.3).1)

  abbrev pub ladder_step : Of → Of → ℕ → State → State
  ladder_step = step_of field.over.numbers

  abbrev pub ladder : Of → Of → ℕ → ℕ → State
  ladder = ladder_of field.over.numbers

  cross_x : (a b a' b' : Of) → mul (add (mul b' a) (mul a' b)) (add (mul b' a) (mul a' b)) ≡ join_x a b a' b'
  cross_x a b a' b' = ap₂ mul (ap (add (mul b' a)) (field.over.laws.mul-comm a' b)) (ap (add (mul b' a)) (field.over.laws.mul-comm a' b))

  cross_z : (u a b a' b' : Of) → mul u (mul (add (mul b' a) (neg (mul a' b))) (add (mul b' a) (neg (mul a' b)))) ≡ join_z u a b a' b'
  cross_z u a b a' b' = ap (λ t. mul u (mul (add (mul b' a) (neg t)) (add (mul b' a) (neg t)))) (field.over.laws.mul-comm a' b)

  turned_x : (a b a' b' : Of) → mul (add (mul b a') (mul a b')) (add (mul b a') (mul a b')) ≡ join_x a b a' b'
  turned_x a b a' b' =
      ring field.over 4 ((v 1 ⊗ v 2 ⊕ v 0 ⊗ v 3) ⊗ (v 1 ⊗ v 2 ⊕ v 0 ⊗ v 3)) ((v 3 ⊗ v 0 ⊕ v 1 ⊗ v 2) ⊗ (v 3 ⊗ v 0 ⊕ v 1 ⊗ v 2)) refl
      (lookup field.over (a ∷ b ∷ a' ∷ b' ∷ []))

  turned_z : (u a b a' b' : Of) → mul u (mul (add (mul b a') (neg (mul a b'))) (add (mul b a') (neg (mul a b')))) ≡ join_z u a b a' b'
  turned_z u a b a' b' =
      ring field.over 5 (v 4 ⊗ ((v 1 ⊗ v 2 ⊖ v 0 ⊗ v 3) ⊗ (v 1 ⊗ v 2 ⊖ v 0 ⊗ v 3))) (v 4 ⊗ ((v 3 ⊗ v 0 ⊖ v 1 ⊗ v 2) ⊗ (v 3 ⊗ v 0 ⊖ v 1 ⊗ v 2))) refl
      (lookup field.over (a ∷ b ∷ a' ∷ b' ∷ u ∷ []))

  -- the step of RFC 7748, whose swaps exchange the two points
  step_is : (k u : Of) (bit : ℕ) (t : State) → ladder_step k u bit t ≡ parts k u bit t
  step_is k u zero t =
      ap₂ (λ x z. ((doubled k t.0 t.1).0, (doubled k t.0 t.1).1, x, z))
      (cross_x (add t.0 t.1) (add t.0 (neg t.1)) (add t.2 t.3) (add t.2 (neg t.3)))
      (cross_z u (add t.0 t.1) (add t.0 (neg t.1)) (add t.2 t.3) (add t.2 (neg t.3)))
  step_is k u (suc n) t =
      ap₂ (λ x z. (x, z, (doubled k t.2 t.3).0, (doubled k t.2 t.3).1))
      (turned_x (add t.0 t.1) (add t.0 (neg t.1)) (add t.2 t.3) (add t.2 (neg t.3)))
      (turned_z u (add t.0 t.1) (add t.0 (neg t.1)) (add t.2 t.3) (add t.2 (neg t.3)))

  abbrev pub Holds : Pair field → ℕ → State → Type 0
  Holds b n t = Stands t.0 t.1 (multiple c b n) × Stands t.2 t.3 (multiple c b (suc n))

  parts_hold : (k u : Of) (b : Pair field) (n bit : ℕ) (t : State) → Start b u → mul k (add one d) ≡ neg d → bit < 2 → Holds b n t → Holds b (bit + 2 * n) (parts k u bit t)
  parts_hold k u b n zero t start h low st = (
    subst (Stands (doubled k t.0 t.1).0 (doubled k t.0 t.1).1) (multiples_add c b start.on n n ∙ ap (multiple c b) (omega arith)) (doubles k t.0 t.1 (multiple c b n) (multiple_on c b start.on n) h st.0),
    subst (Stands (joined u t).0 (joined u t).1) (multiples_add c b start.on (suc n) n ∙ ap (multiple c b) (omega arith))
        (adds u t.0 t.1 t.2 t.3 (multiple c b n) (multiple c b (suc n)) b start (multiple_on c b start.on n) (multiple-suc c b n) st.0 st.1),
  )
  parts_hold k u b n (suc zero) t start h low st = (
    subst (Stands (joined u t).0 (joined u t).1) (multiples_add c b start.on (suc n) n ∙ ap (multiple c b) (omega arith))
        (adds u t.0 t.1 t.2 t.3 (multiple c b n) (multiple c b (suc n)) b start (multiple_on c b start.on n) (multiple-suc c b n) st.0 st.1),
    subst (Stands (doubled k t.2 t.3).0 (doubled k t.2 t.3).1) (multiples_add c b start.on (suc n) (suc n) ∙ ap (multiple c b) (omega arith))
        (doubles k t.2 t.3 (multiple c b (suc n)) (multiple_on c b start.on (suc n)) h st.1),
  )
  parts_hold k u b n (suc (suc bit)) t start h low st = absurd (omega arith)

  step_holds : (k u : Of) (b : Pair field) (n bit : ℕ) (t : State) → Start b u → mul k (add one d) ≡ neg d → bit < 2 → Holds b n t → Holds b (bit + 2 * n) (ladder_step k u bit t)
  step_holds k u b n bit t start h low st = subst (Holds b (bit + 2 * n)) (sym (step_is k u bit t)) (parts_hold k u b n bit t start h low st)

  pub ladder_holds : (k u : Of) (b : Pair field) (f n : ℕ) → Start b u → mul k (add one d) ≡ neg d → n < 2 ^ f → Holds b n (ladder k u f n)
  unfolding ladder_of
  ladder_holds k u b zero zero start h low = (
    subst (Stands one nil) (sym (multiple-zero c b))
        ((λ e. one≢nil field (sym (field.over.laws.add-nil one) ∙ e)), ring field.over 0 (i ⊖ o) (i ⊗ (i ⊕ o)) refl (lookup field.over [])),
    subst (Stands u one) (sym (multiple-one c b)) (
      (λ e. field.two≢nil (follows field.over 2 (i ⊕ i) o ((i ⊖ v 0, v 1 ⊕ i, o) ∷ (- i, v 1 ⊗ (i ⊖ v 0), i ⊕ v 0) ∷ []) refl (lookup field.over (b.1 ∷ u ∷ [])) (e, (start.stands, tt)))),
      follows field.over 2 (v 1 ⊖ i) (v 0 ⊗ (v 1 ⊕ i)) ((i, v 1 ⊗ (i ⊖ v 0), i ⊕ v 0) ∷ []) refl (lookup field.over (b.1 ∷ u ∷ [])) (start.stands, tt),
    ),
  )
  ladder_holds k u b zero (suc n) start h low = absurd (omega arith)
  ladder_holds k u b (suc f) n start h low =
      subst (λ m. Holds b m (ladder_step k u (n % 2) (ladder k u f (n / 2)))) (whole n)
      (step_holds k u b (n / 2) (n % 2) (ladder k u f (n / 2)) start h (omega arith) (ladder_holds k u b f (n / 2) start h (omega arith)))
    where
      whole : (n : ℕ) → n % 2 + 2 * (n / 2) ≡ n
      whole n = omega arith
