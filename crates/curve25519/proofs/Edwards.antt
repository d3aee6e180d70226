-- The twisted Edwards law with a = -1 over a field is complete, closed and commutative, and what associativity rests on.
-- The certificates are found by tools/curve25519/certificates; antt checks them.
use Rattle.std.proofs.Common.{◌≡◌, ℕ, [], ◌∷◌, refl, ap, ap₂, ◌∙◌, ◌≢◌, ◌⊎◌, inl, inr}
use Rattle.curve25519.specs.Edwards.{Pair as Pair_of, IsOn as IsOn_of, cross as cross_of, above_x as above_x_of, above_y as above_y_of, below_x as below_x_of, below_y as below_y_of, sum as sum_of, NotSquare as NotSquare_of}
use Rattle.curve25519.proofs.Identities.{Term, v, i, o, ◌⊕◌, ◌⊗◌, ◌⊖◌, lookup, ring, follows, -◌}
use Rattle.curve25519.proofs.Field.{Field, factor}

-- ---- the law as terms

abbrev rhs : Term → Term → Term → Term
rhs d x y = x ⊗ x ⊕ i ⊕ d ⊗ x ⊗ x ⊗ y ⊗ y

abbrev delta : Term → Term → Term → Term → Term → Term
delta d x y x' y' = d ⊗ x ⊗ x' ⊗ y ⊗ y'

module _ (f : Field) where
  open f.over.numbers use {Of, nil, one, add, mul, neg}

  -- the definitions over the field
  abbrev pub Pair : Type 0
  Pair = Pair_of f.over.numbers

  abbrev pub IsOn : Of → Pair → Type 0
  IsOn = IsOn_of f.over.numbers

  abbrev pub cross : Of → Pair → Pair → Of
  cross = cross_of f.over.numbers

  abbrev pub above_x : Pair → Pair → Of
  above_x = above_x_of f.over.numbers

  abbrev pub above_y : Pair → Pair → Of
  above_y = above_y_of f.over.numbers

  abbrev pub below_x : Of → Pair → Pair → Of
  below_x = below_x_of f.over.numbers

  abbrev pub below_y : Of → Pair → Pair → Of
  below_y = below_y_of f.over.numbers

  abbrev pub sum : Of → Pair → Pair → Pair
  sum = sum_of f.over.numbers

  abbrev pub NotSquare : Of → Type 0
  NotSquare = NotSquare_of f.over.numbers

  pub one≢nil : one ≢ nil
  one≢nil e = f.two≢nil (ap₂ add e e ∙ f.over.laws.add-nil nil)

  -- ---- complete

  root_is_nil : (u w d : Of) → NotSquare d → mul u u ≡ mul d (mul w w) → w ≡ nil
  root_is_nil u w d n e = go (f.decide w nil)
    where
      go : (w ≡ nil) ⊎ (w ≢ nil) → w ≡ nil
      go (inl h) = h
      go (inr h) = absurd (n (mul u (f.over.numbers.inv w))
          (follows f.over 4 ((v 0 ⊗ v 3) ⊗ (v 0 ⊗ v 3)) (v 2)
          ((v 3 ⊗ v 3, v 0 ⊗ v 0, v 2 ⊗ (v 1 ⊗ v 1)) ∷ (v 2 ⊗ (v 1 ⊗ v 3 ⊕ i), v 1 ⊗ v 3, i) ∷ []) refl
          (lookup f.over (u ∷ w ∷ d ∷ f.over.numbers.inv w ∷ [])) (e, (f.mul-inv w h, tt))))

  -- coordinates 0, 1 and 2, 3, d is 4, s is 5
  a_square : (d s : Of) (p q : Pair) → IsOn d p → IsOn d q → mul s s ≡ neg one → mul (cross d p q) (cross d p q) ≡ one
      → mul (add p.1 (mul (mul (cross d p q) s) p.0)) (add p.1 (mul (mul (cross d p q) s) p.0))
      ≡ mul d (mul (mul (mul p.0 p.1) (add q.1 (mul s q.0))) (mul (mul p.0 p.1) (add q.1 (mul s q.0))))
  a_square d s p q on on' hs e =
      let δ : Term = delta (v 4) (v 0) (v 1) (v 2) (v 3) in
      follows f.over 6 ((v 1 ⊕ δ ⊗ v 5 ⊗ v 0) ⊗ (v 1 ⊕ δ ⊗ v 5 ⊗ v 0)) (v 4 ⊗ ((v 0 ⊗ v 1 ⊗ (v 3 ⊕ v 5 ⊗ v 2)) ⊗ (v 0 ⊗ v 1 ⊗ (v 3 ⊕ v 5 ⊗ v 2))))
      ((δ ⊗ δ ⊗ v 0 ⊗ v 0 ⊖ v 4 ⊗ v 0 ⊗ v 0 ⊗ v 1 ⊗ v 1 ⊗ v 2 ⊗ v 2, v 5 ⊗ v 5, - i)
      ∷ (- (v 0 ⊗ v 0 ⊕ i), δ ⊗ δ, i)
      ∷ (i, v 1 ⊗ v 1, rhs (v 4) (v 0) (v 1))
      ∷ (- (v 4 ⊗ v 0 ⊗ v 0 ⊗ v 1 ⊗ v 1), v 3 ⊗ v 3, rhs (v 4) (v 2) (v 3)) ∷ []) refl
      (lookup f.over (p.0 ∷ p.1 ∷ q.0 ∷ q.1 ∷ d ∷ s ∷ [])) (hs, (e, (on, (on', tt))))

  factors_nonzero : (d : Of) (p q : Pair) → mul (cross d p q) (cross d p q) ≡ one → mul p.0 p.1 ≢ nil
  factors_nonzero d p q e h =
      let δ : Term = delta (v 4) (v 0) (v 1) (v 2) (v 3) in
      one≢nil (follows f.over 5 i o ((- i, δ ⊗ δ, i) ∷ (δ ⊗ v 4 ⊗ v 2 ⊗ v 3, v 0 ⊗ v 1, o) ∷ []) refl
      (lookup f.over (p.0 ∷ p.1 ∷ q.0 ∷ q.1 ∷ d ∷ [])) (e, (h, tt)))

  vanishes : (d s : Of) (p q : Pair) → NotSquare d → IsOn d p → IsOn d q → mul s s ≡ neg one → mul (cross d p q) (cross d p q) ≡ one → add q.1 (mul s q.0) ≡ nil
  vanishes d s p q n on on' hs e =
      factor f (mul p.0 p.1) (add q.1 (mul s q.0))
      (root_is_nil (add p.1 (mul (mul (cross d p q) s) p.0)) (mul (mul p.0 p.1) (add q.1 (mul s q.0))) d n (a_square d s p q on on' hs e))
      (factors_nonzero d p q e)

  complete : (d s : Of) (p q : Pair) → NotSquare d → IsOn d p → IsOn d q → mul s s ≡ neg one → mul (cross d p q) (cross d p q) ≡ one → ⊥
  complete d s p q n on on' hs e =
      let δ : Term = delta (v 4) (v 0) (v 1) (v 2) (v 3) in
      let turned : mul (neg s) (neg s) ≡ neg one = follows f.over 1 ((- (v 0)) ⊗ (- (v 0))) (- i) ((i, v 0 ⊗ v 0, - i) ∷ []) refl (lookup f.over (s ∷ [])) (hs, tt) in
      f.two≢nil (follows f.over 6 (i ⊕ i) o
      ((- (i ⊕ i), δ ⊗ δ, i) ∷ (δ ⊗ v 4 ⊗ v 0 ⊗ v 2 ⊗ v 1, v 3 ⊕ v 5 ⊗ v 2, o) ∷ (δ ⊗ v 4 ⊗ v 0 ⊗ v 2 ⊗ v 1, v 3 ⊕ (- (v 5)) ⊗ v 2, o) ∷ []) refl
      (lookup f.over (p.0 ∷ p.1 ∷ q.0 ∷ q.1 ∷ d ∷ s ∷ [])) (e, (vanishes d s p q n on on' hs e, (vanishes d (neg s) p q n on on' turned e, tt))))

  pub below_x≢nil : (d s : Of) (p q : Pair) → NotSquare d → mul s s ≡ neg one → IsOn d p → IsOn d q → below_x d p q ≢ nil
  below_x≢nil d s p q n hs on on' h = complete d s p q n on on' hs
      (follows f.over 1 (v 0 ⊗ v 0) i ((v 0 ⊖ i, i ⊕ v 0, o) ∷ []) refl (lookup f.over (cross d p q ∷ [])) (h, tt))

  pub below_y≢nil : (d s : Of) (p q : Pair) → NotSquare d → mul s s ≡ neg one → IsOn d p → IsOn d q → below_y d p q ≢ nil
  below_y≢nil d s p q n hs on on' h = complete d s p q n on on' hs
      (follows f.over 1 (v 0 ⊗ v 0) i ((- (v 0 ⊕ i), i ⊖ v 0, o) ∷ []) refl (lookup f.over (cross d p q ∷ [])) (h, tt))

  -- ---- closed

  closed_above : (d : Of) (p q : Pair) → IsOn d p → IsOn d q →
      let a = above_x p q in let b = above_y p q in let k = below_x d p q in let l = below_y d p q in
      mul (mul (mul b b) k) k ≡ add (add (mul (mul (mul a a) l) l) (mul (mul (mul k k) l) l)) (mul (mul (mul (mul d a) a) b) b)
  closed_above d p q on on' =
      let A : Term = v 0 ⊗ v 3 ⊕ v 1 ⊗ v 2 in
      let B : Term = v 1 ⊗ v 3 ⊕ v 0 ⊗ v 2 in
      let K : Term = i ⊕ delta (v 4) (v 0) (v 1) (v 2) (v 3) in
      let L : Term = i ⊖ delta (v 4) (v 0) (v 1) (v 2) (v 3) in
      follows f.over 5 (B ⊗ B ⊗ K ⊗ K) (A ⊗ A ⊗ L ⊗ L ⊕ K ⊗ K ⊗ L ⊗ L ⊕ v 4 ⊗ A ⊗ A ⊗ B ⊗ B)
      (((v 0 ⊗ v 0 ⊗ v 1 ⊗ v 1 ⊗ v 2 ⊗ v 2 ⊗ v 2 ⊗ v 2 ⊗ v 3 ⊗ v 3 ⊗ v 3 ⊗ v 3 ⊗ v 4 ⊗ v 4 ⊗ v 4 ⊖ (v 0 ⊗ v 0 ⊗ v 2 ⊗ v 2 ⊗ v 2 ⊗ v 2 ⊗ v 3 ⊗ v 3 ⊗ v 3 ⊗ v 3 ⊗ v 4 ⊗ v 4) ⊖ (v 0 ⊗ v 0 ⊗ v 2 ⊗ v 2 ⊗ v 2 ⊗ v 2 ⊗ v 3 ⊗ v 3 ⊗ v 4) ⊕ v 0 ⊗ v 0 ⊗ v 2 ⊗ v 2 ⊗ v 3 ⊗ v 3 ⊗ v 3 ⊗ v 3 ⊗ v 4 ⊕ v 1 ⊗ v 1 ⊗ v 2 ⊗ v 2 ⊗ v 2 ⊗ v 2 ⊗ v 3 ⊗ v 3 ⊗ v 3 ⊗ v 3 ⊗ v 4 ⊗ v 4 ⊕ v 1 ⊗ v 1 ⊗ v 2 ⊗ v 2 ⊗ v 2 ⊗ v 2 ⊗ v 3 ⊗ v 3 ⊗ v 4 ⊖ (v 1 ⊗ v 1 ⊗ v 2 ⊗ v 2 ⊗ v 3 ⊗ v 3 ⊗ v 3 ⊗ v 3 ⊗ v 4) ⊖ (v 2 ⊗ v 2 ⊗ v 2 ⊗ v 2 ⊗ v 3 ⊗ v 3 ⊗ v 3 ⊗ v 3 ⊗ v 4 ⊗ v 4) ⊖ ((i ⊕ i) ⊗ v 2 ⊗ v 2 ⊗ v 2 ⊗ v 2 ⊗ v 3 ⊗ v 3 ⊗ v 3 ⊗ v 3 ⊗ v 4) ⊖ ((i ⊕ i) ⊗ v 2 ⊗ v 2 ⊗ v 2 ⊗ v 2 ⊗ v 3 ⊗ v 3) ⊕ v 2 ⊗ v 2 ⊗ v 2 ⊗ v 2 ⊕ (i ⊕ i) ⊗ v 2 ⊗ v 2 ⊗ v 3 ⊗ v 3 ⊗ v 3 ⊗ v 3 ⊖ ((i ⊕ i) ⊗ v 2 ⊗ v 2 ⊗ v 3 ⊗ v 3 ⊗ v 4) ⊖ ((i ⊕ i ⊕ i ⊕ i) ⊗ v 2 ⊗ v 2 ⊗ v 3 ⊗ v 3) ⊕ v 3 ⊗ v 3 ⊗ v 3 ⊗ v 3), v 1 ⊗ v 1, rhs (v 4) (v 0) (v 1))
      ∷ ((v 0 ⊗ v 0 ⊗ v 0 ⊗ v 0 ⊗ v 2 ⊗ v 2 ⊗ v 3 ⊗ v 3 ⊗ v 4 ⊕ (i ⊕ i) ⊗ v 0 ⊗ v 0 ⊗ v 2 ⊗ v 2 ⊗ v 3 ⊗ v 3 ⊗ v 4 ⊕ (i ⊕ i) ⊗ v 0 ⊗ v 0 ⊗ v 2 ⊗ v 2 ⊗ v 3 ⊗ v 3 ⊖ (v 0 ⊗ v 0 ⊗ v 2 ⊗ v 2) ⊕ v 0 ⊗ v 0 ⊗ v 3 ⊗ v 3 ⊕ v 1 ⊗ v 1 ⊗ v 1 ⊗ v 1 ⊗ v 2 ⊗ v 2 ⊗ v 3 ⊗ v 3 ⊗ v 4 ⊖ ((i ⊕ i) ⊗ v 1 ⊗ v 1 ⊗ v 2 ⊗ v 2 ⊗ v 3 ⊗ v 3 ⊗ v 4) ⊖ ((i ⊕ i) ⊗ v 1 ⊗ v 1 ⊗ v 2 ⊗ v 2 ⊗ v 3 ⊗ v 3) ⊕ v 1 ⊗ v 1 ⊗ v 2 ⊗ v 2 ⊖ (v 1 ⊗ v 1 ⊗ v 3 ⊗ v 3) ⊕ v 2 ⊗ v 2 ⊗ v 3 ⊗ v 3 ⊗ v 4 ⊕ (i ⊕ i) ⊗ v 2 ⊗ v 2 ⊗ v 3 ⊗ v 3 ⊖ (v 2 ⊗ v 2) ⊕ v 3 ⊗ v 3 ⊕ i), v 3 ⊗ v 3, rhs (v 4) (v 2) (v 3)) ∷ []) refl
      (lookup f.over (p.0 ∷ p.1 ∷ q.0 ∷ q.1 ∷ d ∷ [])) (on, (on', tt))

  -- a is 0, b 1, k 2, l 3, 1/k 4, 1/l 5, d 6
  closed_from : (d a b k l k' l' : Of) → mul (mul (mul b b) k) k ≡ add (add (mul (mul (mul a a) l) l) (mul (mul (mul k k) l) l)) (mul (mul (mul (mul d a) a) b) b)
      → mul k k' ≡ one → mul l l' ≡ one → IsOn d (mul a k', mul b l')
  closed_from d a b k l k' l' e h h' =
      let X : Term = v 0 ⊗ v 4 in
      let Y : Term = v 1 ⊗ v 5 in
      follows f.over 7 (Y ⊗ Y) (rhs (v 6) X Y)
      ((v 4 ⊗ v 4 ⊗ v 5 ⊗ v 5, v 1 ⊗ v 1 ⊗ v 2 ⊗ v 2, v 0 ⊗ v 0 ⊗ v 3 ⊗ v 3 ⊕ v 2 ⊗ v 2 ⊗ v 3 ⊗ v 3 ⊕ v 6 ⊗ v 0 ⊗ v 0 ⊗ v 1 ⊗ v 1)
      ∷ (((v 3 ⊗ v 5) ⊗ (v 3 ⊗ v 5) ⊖ Y ⊗ Y) ⊗ (v 2 ⊗ v 4 ⊕ i), v 2 ⊗ v 4, i)
      ∷ ((X ⊗ X ⊕ i) ⊗ (v 3 ⊗ v 5 ⊕ i), v 3 ⊗ v 5, i) ∷ []) refl
      (lookup f.over (a ∷ b ∷ k ∷ l ∷ k' ∷ l' ∷ d ∷ [])) (e, (h, (h', tt)))

  pub closed : (d s : Of) (p q : Pair) → NotSquare d → mul s s ≡ neg one → IsOn d p → IsOn d q → IsOn d (sum d p q)
  closed d s p q n hs on on' =
      closed_from d (above_x p q) (above_y p q) (below_x d p q) (below_y d p q) (f.over.numbers.inv (below_x d p q)) (f.over.numbers.inv (below_y d p q)) (closed_above d p q on on')
      (f.mul-inv (below_x d p q) (below_x≢nil d s p q n hs on on')) (f.mul-inv (below_y d p q) (below_y≢nil d s p q n hs on on'))

  -- ---- commutative

  pub commutes : (d : Of) (p q : Pair) → sum d p q ≡ sum d q p
  commutes d p q =
      let ρ : ℕ → Of = lookup f.over (p.0 ∷ p.1 ∷ q.0 ∷ q.1 ∷ d ∷ []) in
      let c : cross d p q ≡ cross d q p = ring f.over 5 (delta (v 4) (v 0) (v 1) (v 2) (v 3)) (delta (v 4) (v 2) (v 3) (v 0) (v 1)) refl ρ in
      ap₂ (λ x y. (x, y))
      (ap₂ mul (ring f.over 5 (v 0 ⊗ v 3 ⊕ v 1 ⊗ v 2) (v 2 ⊗ v 1 ⊕ v 3 ⊗ v 0) refl ρ) (ap (λ t. f.over.numbers.inv (add one t)) c))
      (ap₂ mul (ring f.over 5 (v 1 ⊗ v 3 ⊕ v 0 ⊗ v 2) (v 3 ⊗ v 1 ⊕ v 2 ⊗ v 0) refl ρ) (ap (λ t. f.over.numbers.inv (add one (neg t))) c))

  -- ---- associative

  -- the numerators and denominators of the coordinates of (p + q) + r, with those of p + q multiplied out
  abbrev pub over_x : Pair → Pair → Pair → Of → Of
  over_x p q r d = add (mul (mul (above_x p q) r.1) (below_y d p q)) (mul (mul (above_y p q) r.0) (below_x d p q))

  abbrev pub over_y : Pair → Pair → Pair → Of → Of
  over_y p q r d = add (mul (mul (above_y p q) r.1) (below_x d p q)) (mul (mul (above_x p q) r.0) (below_y d p q))

  abbrev pub twist : Pair → Pair → Pair → Of → Of
  twist p q r d = mul (mul (mul (mul d (above_x p q)) (above_y p q)) r.0) r.1

  abbrev pub under_x : Pair → Pair → Pair → Of → Of
  under_x p q r d = add (mul (below_x d p q) (below_y d p q)) (twist p q r d)

  abbrev pub under_y : Pair → Pair → Pair → Of → Of
  under_y p q r d = add (mul (below_x d p q) (below_y d p q)) (neg (twist p q r d))

  pub same_x : (d : Of) (p q r : Pair) → IsOn d p → IsOn d q → IsOn d r → mul (over_x p q r d) (under_x q r p d) ≡ mul (over_x q r p d) (under_x p q r d)
  same_x d p q r on on' on'' =
      follows f.over 7 (((v 0 ⊗ v 3 ⊕ v 1 ⊗ v 2) ⊗ v 5 ⊗ (i ⊖ delta (v 6) (v 0) (v 1) (v 2) (v 3)) ⊕ (v 1 ⊗ v 3 ⊕ v 0 ⊗ v 2) ⊗ v 4 ⊗ (i ⊕ delta (v 6) (v 0) (v 1) (v 2) (v 3))) ⊗ ((i ⊕ delta (v 6) (v 2) (v 3) (v 4) (v 5)) ⊗ (i ⊖ delta (v 6) (v 2) (v 3) (v 4) (v 5)) ⊕ v 6 ⊗ (v 2 ⊗ v 5 ⊕ v 3 ⊗ v 4) ⊗ (v 3 ⊗ v 5 ⊕ v 2 ⊗ v 4) ⊗ v 0 ⊗ v 1)) (((v 2 ⊗ v 5 ⊕ v 3 ⊗ v 4) ⊗ v 1 ⊗ (i ⊖ delta (v 6) (v 2) (v 3) (v 4) (v 5)) ⊕ (v 3 ⊗ v 5 ⊕ v 2 ⊗ v 4) ⊗ v 0 ⊗ (i ⊕ delta (v 6) (v 2) (v 3) (v 4) (v 5))) ⊗ ((i ⊕ delta (v 6) (v 0) (v 1) (v 2) (v 3)) ⊗ (i ⊖ delta (v 6) (v 0) (v 1) (v 2) (v 3)) ⊕ v 6 ⊗ (v 0 ⊗ v 3 ⊕ v 1 ⊗ v 2) ⊗ (v 1 ⊗ v 3 ⊕ v 0 ⊗ v 2) ⊗ v 4 ⊗ v 5))
      (((- (v 0 ⊗ v 2 ⊗ v 2 ⊗ v 2 ⊗ v 2 ⊗ v 3 ⊗ v 3 ⊗ v 3 ⊗ v 4 ⊗ v 4 ⊗ v 5 ⊗ v 6 ⊗ v 6) ⊖ (v 0 ⊗ v 2 ⊗ v 2 ⊗ v 2 ⊗ v 2 ⊗ v 3 ⊗ v 4 ⊗ v 4 ⊗ v 5 ⊗ v 6) ⊖ (v 0 ⊗ v 2 ⊗ v 2 ⊗ v 2 ⊗ v 3 ⊗ v 3 ⊗ v 3 ⊗ v 3 ⊗ v 4 ⊗ v 5 ⊗ v 5 ⊗ v 6 ⊗ v 6) ⊖ (v 0 ⊗ v 2 ⊗ v 2 ⊗ v 2 ⊗ v 3 ⊗ v 3 ⊗ v 4 ⊗ v 4 ⊗ v 4 ⊗ v 6) ⊖ (v 0 ⊗ v 2 ⊗ v 2 ⊗ v 2 ⊗ v 3 ⊗ v 3 ⊗ v 4 ⊗ v 6) ⊕ v 0 ⊗ v 2 ⊗ v 2 ⊗ v 3 ⊗ v 3 ⊗ v 3 ⊗ v 5 ⊗ v 5 ⊗ v 5 ⊗ v 6 ⊖ (v 0 ⊗ v 2 ⊗ v 2 ⊗ v 3 ⊗ v 3 ⊗ v 3 ⊗ v 5 ⊗ v 6) ⊕ v 0 ⊗ v 2 ⊗ v 3 ⊗ v 3 ⊗ v 3 ⊗ v 3 ⊗ v 4 ⊗ v 5 ⊗ v 5 ⊗ v 6 ⊕ v 1 ⊗ v 2 ⊗ v 2 ⊗ v 2 ⊗ v 2 ⊗ v 3 ⊗ v 3 ⊗ v 3 ⊗ v 4 ⊗ v 5 ⊗ v 5 ⊗ v 6 ⊗ v 6 ⊕ v 1 ⊗ v 2 ⊗ v 2 ⊗ v 2 ⊗ v 2 ⊗ v 3 ⊗ v 4 ⊗ v 5 ⊗ v 5 ⊗ v 6 ⊕ v 1 ⊗ v 2 ⊗ v 2 ⊗ v 2 ⊗ v 3 ⊗ v 3 ⊗ v 3 ⊗ v 3 ⊗ v 4 ⊗ v 4 ⊗ v 5 ⊗ v 6 ⊗ v 6 ⊕ v 1 ⊗ v 2 ⊗ v 2 ⊗ v 2 ⊗ v 3 ⊗ v 3 ⊗ v 5 ⊗ v 5 ⊗ v 5 ⊗ v 6 ⊖ (v 1 ⊗ v 2 ⊗ v 2 ⊗ v 2 ⊗ v 3 ⊗ v 3 ⊗ v 5 ⊗ v 6) ⊖ (v 1 ⊗ v 2 ⊗ v 2 ⊗ v 3 ⊗ v 3 ⊗ v 3 ⊗ v 4 ⊗ v 4 ⊗ v 4 ⊗ v 6) ⊖ (v 1 ⊗ v 2 ⊗ v 2 ⊗ v 3 ⊗ v 3 ⊗ v 3 ⊗ v 4 ⊗ v 6) ⊖ (v 1 ⊗ v 2 ⊗ v 3 ⊗ v 3 ⊗ v 3 ⊗ v 3 ⊗ v 4 ⊗ v 4 ⊗ v 5 ⊗ v 6)), v 1 ⊗ v 1, rhs (v 6) (v 0) (v 1))
      ∷ ((v 0 ⊗ v 0 ⊗ v 0 ⊗ v 2 ⊗ v 2 ⊗ v 3 ⊗ v 4 ⊗ v 4 ⊗ v 5 ⊗ v 6 ⊕ v 0 ⊗ v 0 ⊗ v 0 ⊗ v 2 ⊗ v 3 ⊗ v 3 ⊗ v 4 ⊗ v 5 ⊗ v 5 ⊗ v 6 ⊕ v 0 ⊗ v 0 ⊗ v 0 ⊗ v 2 ⊗ v 4 ⊗ v 4 ⊗ v 4 ⊗ v 5 ⊗ v 5 ⊗ v 6 ⊕ v 0 ⊗ v 0 ⊗ v 0 ⊗ v 2 ⊗ v 4 ⊗ v 4 ⊗ v 4 ⊖ (v 0 ⊗ v 0 ⊗ v 0 ⊗ v 2 ⊗ v 4 ⊗ v 5 ⊗ v 5) ⊕ v 0 ⊗ v 0 ⊗ v 0 ⊗ v 2 ⊗ v 4 ⊕ v 0 ⊗ v 0 ⊗ v 0 ⊗ v 3 ⊗ v 4 ⊗ v 4 ⊗ v 5 ⊗ v 5 ⊗ v 5 ⊗ v 6 ⊕ v 0 ⊗ v 0 ⊗ v 0 ⊗ v 3 ⊗ v 4 ⊗ v 4 ⊗ v 5 ⊖ (v 0 ⊗ v 0 ⊗ v 0 ⊗ v 3 ⊗ v 5 ⊗ v 5 ⊗ v 5) ⊕ v 0 ⊗ v 0 ⊗ v 0 ⊗ v 3 ⊗ v 5 ⊕ v 0 ⊗ v 0 ⊗ v 1 ⊗ v 2 ⊗ v 2 ⊗ v 3 ⊗ v 4 ⊗ v 4 ⊗ v 4 ⊗ v 5 ⊗ v 5 ⊗ v 6 ⊗ v 6 ⊖ (v 0 ⊗ v 0 ⊗ v 1 ⊗ v 2 ⊗ v 2 ⊗ v 3 ⊗ v 4 ⊗ v 5 ⊗ v 5 ⊗ v 6) ⊖ (v 0 ⊗ v 0 ⊗ v 1 ⊗ v 2 ⊗ v 3 ⊗ v 3 ⊗ v 4 ⊗ v 4 ⊗ v 5 ⊗ v 5 ⊗ v 5 ⊗ v 6 ⊗ v 6) ⊖ (v 0 ⊗ v 0 ⊗ v 1 ⊗ v 2 ⊗ v 3 ⊗ v 3 ⊗ v 4 ⊗ v 4 ⊗ v 5 ⊗ v 6) ⊕ v 0 ⊗ v 0 ⊗ v 1 ⊗ v 2 ⊗ v 4 ⊗ v 4 ⊗ v 5 ⊗ v 5 ⊗ v 5 ⊗ v 6 ⊕ v 0 ⊗ v 0 ⊗ v 1 ⊗ v 2 ⊗ v 4 ⊗ v 4 ⊗ v 5 ⊖ (v 0 ⊗ v 0 ⊗ v 1 ⊗ v 2 ⊗ v 5 ⊗ v 5 ⊗ v 5) ⊕ v 0 ⊗ v 0 ⊗ v 1 ⊗ v 2 ⊗ v 5 ⊕ v 0 ⊗ v 0 ⊗ v 1 ⊗ v 3 ⊗ v 4 ⊗ v 4 ⊗ v 4 ⊗ v 5 ⊗ v 5 ⊗ v 6 ⊕ v 0 ⊗ v 0 ⊗ v 1 ⊗ v 3 ⊗ v 4 ⊗ v 4 ⊗ v 4 ⊖ (v 0 ⊗ v 0 ⊗ v 1 ⊗ v 3 ⊗ v 4 ⊗ v 5 ⊗ v 5) ⊕ v 0 ⊗ v 0 ⊗ v 1 ⊗ v 3 ⊗ v 4 ⊖ (v 0 ⊗ v 1 ⊗ v 1 ⊗ v 2 ⊗ v 2 ⊗ v 3 ⊗ v 4 ⊗ v 4 ⊗ v 5 ⊗ v 5 ⊗ v 5 ⊗ v 6 ⊗ v 6) ⊖ (v 0 ⊗ v 1 ⊗ v 1 ⊗ v 2 ⊗ v 2 ⊗ v 3 ⊗ v 4 ⊗ v 4 ⊗ v 5 ⊗ v 6) ⊕ v 0 ⊗ v 1 ⊗ v 1 ⊗ v 2 ⊗ v 3 ⊗ v 3 ⊗ v 4 ⊗ v 4 ⊗ v 4 ⊗ v 5 ⊗ v 5 ⊗ v 6 ⊗ v 6 ⊖ (v 0 ⊗ v 1 ⊗ v 1 ⊗ v 2 ⊗ v 3 ⊗ v 3 ⊗ v 4 ⊗ v 5 ⊗ v 5 ⊗ v 6) ⊖ (v 0 ⊗ v 1 ⊗ v 1 ⊗ v 2 ⊗ v 4 ⊗ v 4 ⊗ v 4 ⊗ v 5 ⊗ v 5 ⊗ v 6) ⊖ (v 0 ⊗ v 1 ⊗ v 1 ⊗ v 2 ⊗ v 4 ⊗ v 4 ⊗ v 4) ⊕ v 0 ⊗ v 1 ⊗ v 1 ⊗ v 2 ⊗ v 4 ⊗ v 5 ⊗ v 5 ⊖ (v 0 ⊗ v 1 ⊗ v 1 ⊗ v 2 ⊗ v 4) ⊖ (v 0 ⊗ v 1 ⊗ v 1 ⊗ v 3 ⊗ v 4 ⊗ v 4 ⊗ v 5 ⊗ v 5 ⊗ v 5 ⊗ v 6) ⊖ (v 0 ⊗ v 1 ⊗ v 1 ⊗ v 3 ⊗ v 4 ⊗ v 4 ⊗ v 5) ⊕ v 0 ⊗ v 1 ⊗ v 1 ⊗ v 3 ⊗ v 5 ⊗ v 5 ⊗ v 5 ⊖ (v 0 ⊗ v 1 ⊗ v 1 ⊗ v 3 ⊗ v 5) ⊕ v 0 ⊗ v 2 ⊗ v 2 ⊗ v 3 ⊗ v 4 ⊗ v 4 ⊗ v 5 ⊗ v 6 ⊕ v 0 ⊗ v 2 ⊗ v 3 ⊗ v 3 ⊗ v 4 ⊗ v 5 ⊗ v 5 ⊗ v 6 ⊕ v 0 ⊗ v 2 ⊗ v 4 ⊗ v 4 ⊗ v 4 ⊗ v 5 ⊗ v 5 ⊗ v 6 ⊕ v 0 ⊗ v 2 ⊗ v 4 ⊗ v 4 ⊗ v 4 ⊖ (v 0 ⊗ v 2 ⊗ v 4 ⊗ v 5 ⊗ v 5) ⊕ v 0 ⊗ v 2 ⊗ v 4 ⊕ v 0 ⊗ v 3 ⊗ v 4 ⊗ v 4 ⊗ v 5 ⊗ v 5 ⊗ v 5 ⊗ v 6 ⊕ v 0 ⊗ v 3 ⊗ v 4 ⊗ v 4 ⊗ v 5 ⊖ (v 0 ⊗ v 3 ⊗ v 5 ⊗ v 5 ⊗ v 5) ⊕ v 0 ⊗ v 3 ⊗ v 5 ⊕ v 1 ⊗ v 1 ⊗ v 1 ⊗ v 2 ⊗ v 2 ⊗ v 3 ⊗ v 4 ⊗ v 5 ⊗ v 5 ⊗ v 6 ⊕ v 1 ⊗ v 1 ⊗ v 1 ⊗ v 2 ⊗ v 3 ⊗ v 3 ⊗ v 4 ⊗ v 4 ⊗ v 5 ⊗ v 6 ⊖ (v 1 ⊗ v 1 ⊗ v 1 ⊗ v 2 ⊗ v 4 ⊗ v 4 ⊗ v 5 ⊗ v 5 ⊗ v 5 ⊗ v 6) ⊖ (v 1 ⊗ v 1 ⊗ v 1 ⊗ v 2 ⊗ v 4 ⊗ v 4 ⊗ v 5) ⊕ v 1 ⊗ v 1 ⊗ v 1 ⊗ v 2 ⊗ v 5 ⊗ v 5 ⊗ v 5 ⊖ (v 1 ⊗ v 1 ⊗ v 1 ⊗ v 2 ⊗ v 5) ⊖ (v 1 ⊗ v 1 ⊗ v 1 ⊗ v 3 ⊗ v 4 ⊗ v 4 ⊗ v 4 ⊗ v 5 ⊗ v 5 ⊗ v 6) ⊖ (v 1 ⊗ v 1 ⊗ v 1 ⊗ v 3 ⊗ v 4 ⊗ v 4 ⊗ v 4) ⊕ v 1 ⊗ v 1 ⊗ v 1 ⊗ v 3 ⊗ v 4 ⊗ v 5 ⊗ v 5 ⊖ (v 1 ⊗ v 1 ⊗ v 1 ⊗ v 3 ⊗ v 4) ⊖ (v 1 ⊗ v 2 ⊗ v 2 ⊗ v 3 ⊗ v 4 ⊗ v 5 ⊗ v 5 ⊗ v 6) ⊖ (v 1 ⊗ v 2 ⊗ v 3 ⊗ v 3 ⊗ v 4 ⊗ v 4 ⊗ v 5 ⊗ v 6) ⊕ v 1 ⊗ v 2 ⊗ v 4 ⊗ v 4 ⊗ v 5 ⊗ v 5 ⊗ v 5 ⊗ v 6 ⊕ v 1 ⊗ v 2 ⊗ v 4 ⊗ v 4 ⊗ v 5 ⊖ (v 1 ⊗ v 2 ⊗ v 5 ⊗ v 5 ⊗ v 5) ⊕ v 1 ⊗ v 2 ⊗ v 5 ⊕ v 1 ⊗ v 3 ⊗ v 4 ⊗ v 4 ⊗ v 4 ⊗ v 5 ⊗ v 5 ⊗ v 6 ⊕ v 1 ⊗ v 3 ⊗ v 4 ⊗ v 4 ⊗ v 4 ⊖ (v 1 ⊗ v 3 ⊗ v 4 ⊗ v 5 ⊗ v 5) ⊕ v 1 ⊗ v 3 ⊗ v 4), v 3 ⊗ v 3, rhs (v 6) (v 2) (v 3))
      ∷ ((- (v 0 ⊗ v 0 ⊗ v 0 ⊗ v 2 ⊗ v 2 ⊗ v 2 ⊗ v 4) ⊖ (v 0 ⊗ v 0 ⊗ v 0 ⊗ v 2 ⊗ v 2 ⊗ v 3 ⊗ v 5) ⊕ v 0 ⊗ v 0 ⊗ v 0 ⊗ v 2 ⊗ v 3 ⊗ v 3 ⊗ v 4 ⊖ (v 0 ⊗ v 0 ⊗ v 0 ⊗ v 2 ⊗ v 4) ⊕ v 0 ⊗ v 0 ⊗ v 0 ⊗ v 3 ⊗ v 3 ⊗ v 3 ⊗ v 5 ⊖ (v 0 ⊗ v 0 ⊗ v 0 ⊗ v 3 ⊗ v 5) ⊖ (v 0 ⊗ v 0 ⊗ v 1 ⊗ v 2 ⊗ v 2 ⊗ v 2 ⊗ v 5) ⊖ (v 0 ⊗ v 0 ⊗ v 1 ⊗ v 2 ⊗ v 2 ⊗ v 3 ⊗ v 4 ⊗ v 6) ⊖ (v 0 ⊗ v 0 ⊗ v 1 ⊗ v 2 ⊗ v 2 ⊗ v 3 ⊗ v 4) ⊕ v 0 ⊗ v 0 ⊗ v 1 ⊗ v 2 ⊗ v 3 ⊗ v 3 ⊗ v 5 ⊗ v 6 ⊕ v 0 ⊗ v 0 ⊗ v 1 ⊗ v 2 ⊗ v 3 ⊗ v 3 ⊗ v 5 ⊖ (v 0 ⊗ v 0 ⊗ v 1 ⊗ v 2 ⊗ v 5) ⊕ v 0 ⊗ v 0 ⊗ v 1 ⊗ v 3 ⊗ v 3 ⊗ v 3 ⊗ v 4 ⊖ (v 0 ⊗ v 0 ⊗ v 1 ⊗ v 3 ⊗ v 4) ⊕ v 0 ⊗ v 1 ⊗ v 1 ⊗ v 2 ⊗ v 2 ⊗ v 2 ⊗ v 4 ⊕ v 0 ⊗ v 1 ⊗ v 1 ⊗ v 2 ⊗ v 2 ⊗ v 3 ⊗ v 5 ⊗ v 6 ⊕ v 0 ⊗ v 1 ⊗ v 1 ⊗ v 2 ⊗ v 2 ⊗ v 3 ⊗ v 5 ⊖ (v 0 ⊗ v 1 ⊗ v 1 ⊗ v 2 ⊗ v 3 ⊗ v 3 ⊗ v 4 ⊗ v 6) ⊖ (v 0 ⊗ v 1 ⊗ v 1 ⊗ v 2 ⊗ v 3 ⊗ v 3 ⊗ v 4) ⊕ v 0 ⊗ v 1 ⊗ v 1 ⊗ v 2 ⊗ v 4 ⊖ (v 0 ⊗ v 1 ⊗ v 1 ⊗ v 3 ⊗ v 3 ⊗ v 3 ⊗ v 5) ⊕ v 0 ⊗ v 1 ⊗ v 1 ⊗ v 3 ⊗ v 5 ⊖ (v 0 ⊗ v 2 ⊗ v 2 ⊗ v 2 ⊗ v 4) ⊖ (v 0 ⊗ v 2 ⊗ v 2 ⊗ v 3 ⊗ v 5) ⊕ v 0 ⊗ v 2 ⊗ v 3 ⊗ v 3 ⊗ v 4 ⊖ (v 0 ⊗ v 2 ⊗ v 4) ⊕ v 0 ⊗ v 3 ⊗ v 3 ⊗ v 3 ⊗ v 5 ⊖ (v 0 ⊗ v 3 ⊗ v 5) ⊕ v 1 ⊗ v 1 ⊗ v 1 ⊗ v 2 ⊗ v 2 ⊗ v 2 ⊗ v 5 ⊕ v 1 ⊗ v 1 ⊗ v 1 ⊗ v 2 ⊗ v 2 ⊗ v 3 ⊗ v 4 ⊖ (v 1 ⊗ v 1 ⊗ v 1 ⊗ v 2 ⊗ v 3 ⊗ v 3 ⊗ v 5) ⊕ v 1 ⊗ v 1 ⊗ v 1 ⊗ v 2 ⊗ v 5 ⊖ (v 1 ⊗ v 1 ⊗ v 1 ⊗ v 3 ⊗ v 3 ⊗ v 3 ⊗ v 4) ⊕ v 1 ⊗ v 1 ⊗ v 1 ⊗ v 3 ⊗ v 4 ⊖ (v 1 ⊗ v 2 ⊗ v 2 ⊗ v 2 ⊗ v 5) ⊖ (v 1 ⊗ v 2 ⊗ v 2 ⊗ v 3 ⊗ v 4) ⊕ v 1 ⊗ v 2 ⊗ v 3 ⊗ v 3 ⊗ v 5 ⊖ (v 1 ⊗ v 2 ⊗ v 5) ⊕ v 1 ⊗ v 3 ⊗ v 3 ⊗ v 3 ⊗ v 4 ⊖ (v 1 ⊗ v 3 ⊗ v 4)), v 5 ⊗ v 5, rhs (v 6) (v 4) (v 5)) ∷ []) refl
      (lookup f.over (p.0 ∷ p.1 ∷ q.0 ∷ q.1 ∷ r.0 ∷ r.1 ∷ d ∷ [])) (on, (on', (on'', tt)))

  pub same_y : (d : Of) (p q r : Pair) → IsOn d p → IsOn d q → IsOn d r → mul (over_y p q r d) (under_y q r p d) ≡ mul (over_y q r p d) (under_y p q r d)
  same_y d p q r on on' on'' =
      follows f.over 7 (((v 1 ⊗ v 3 ⊕ v 0 ⊗ v 2) ⊗ v 5 ⊗ (i ⊕ delta (v 6) (v 0) (v 1) (v 2) (v 3)) ⊕ (v 0 ⊗ v 3 ⊕ v 1 ⊗ v 2) ⊗ v 4 ⊗ (i ⊖ delta (v 6) (v 0) (v 1) (v 2) (v 3))) ⊗ ((i ⊕ delta (v 6) (v 2) (v 3) (v 4) (v 5)) ⊗ (i ⊖ delta (v 6) (v 2) (v 3) (v 4) (v 5)) ⊖ v 6 ⊗ (v 2 ⊗ v 5 ⊕ v 3 ⊗ v 4) ⊗ (v 3 ⊗ v 5 ⊕ v 2 ⊗ v 4) ⊗ v 0 ⊗ v 1)) (((v 3 ⊗ v 5 ⊕ v 2 ⊗ v 4) ⊗ v 1 ⊗ (i ⊕ delta (v 6) (v 2) (v 3) (v 4) (v 5)) ⊕ (v 2 ⊗ v 5 ⊕ v 3 ⊗ v 4) ⊗ v 0 ⊗ (i ⊖ delta (v 6) (v 2) (v 3) (v 4) (v 5))) ⊗ ((i ⊕ delta (v 6) (v 0) (v 1) (v 2) (v 3)) ⊗ (i ⊖ delta (v 6) (v 0) (v 1) (v 2) (v 3)) ⊖ v 6 ⊗ (v 0 ⊗ v 3 ⊕ v 1 ⊗ v 2) ⊗ (v 1 ⊗ v 3 ⊕ v 0 ⊗ v 2) ⊗ v 4 ⊗ v 5))
      (((v 0 ⊗ v 2 ⊗ v 2 ⊗ v 2 ⊗ v 2 ⊗ v 3 ⊗ v 3 ⊗ v 3 ⊗ v 4 ⊗ v 5 ⊗ v 5 ⊗ v 6 ⊗ v 6 ⊕ v 0 ⊗ v 2 ⊗ v 2 ⊗ v 2 ⊗ v 2 ⊗ v 3 ⊗ v 4 ⊗ v 5 ⊗ v 5 ⊗ v 6 ⊕ v 0 ⊗ v 2 ⊗ v 2 ⊗ v 2 ⊗ v 3 ⊗ v 3 ⊗ v 3 ⊗ v 3 ⊗ v 4 ⊗ v 4 ⊗ v 5 ⊗ v 6 ⊗ v 6 ⊕ v 0 ⊗ v 2 ⊗ v 2 ⊗ v 2 ⊗ v 3 ⊗ v 3 ⊗ v 5 ⊗ v 5 ⊗ v 5 ⊗ v 6 ⊖ (v 0 ⊗ v 2 ⊗ v 2 ⊗ v 2 ⊗ v 3 ⊗ v 3 ⊗ v 5 ⊗ v 6) ⊖ (v 0 ⊗ v 2 ⊗ v 2 ⊗ v 3 ⊗ v 3 ⊗ v 3 ⊗ v 4 ⊗ v 4 ⊗ v 4 ⊗ v 6) ⊖ (v 0 ⊗ v 2 ⊗ v 2 ⊗ v 3 ⊗ v 3 ⊗ v 3 ⊗ v 4 ⊗ v 6) ⊖ (v 0 ⊗ v 2 ⊗ v 3 ⊗ v 3 ⊗ v 3 ⊗ v 3 ⊗ v 4 ⊗ v 4 ⊗ v 5 ⊗ v 6) ⊖ (v 1 ⊗ v 2 ⊗ v 2 ⊗ v 2 ⊗ v 2 ⊗ v 3 ⊗ v 3 ⊗ v 3 ⊗ v 4 ⊗ v 4 ⊗ v 5 ⊗ v 6 ⊗ v 6) ⊖ (v 1 ⊗ v 2 ⊗ v 2 ⊗ v 2 ⊗ v 2 ⊗ v 3 ⊗ v 4 ⊗ v 4 ⊗ v 5 ⊗ v 6) ⊖ (v 1 ⊗ v 2 ⊗ v 2 ⊗ v 2 ⊗ v 3 ⊗ v 3 ⊗ v 3 ⊗ v 3 ⊗ v 4 ⊗ v 5 ⊗ v 5 ⊗ v 6 ⊗ v 6) ⊖ (v 1 ⊗ v 2 ⊗ v 2 ⊗ v 2 ⊗ v 3 ⊗ v 3 ⊗ v 4 ⊗ v 4 ⊗ v 4 ⊗ v 6) ⊖ (v 1 ⊗ v 2 ⊗ v 2 ⊗ v 2 ⊗ v 3 ⊗ v 3 ⊗ v 4 ⊗ v 6) ⊕ v 1 ⊗ v 2 ⊗ v 2 ⊗ v 3 ⊗ v 3 ⊗ v 3 ⊗ v 5 ⊗ v 5 ⊗ v 5 ⊗ v 6 ⊖ (v 1 ⊗ v 2 ⊗ v 2 ⊗ v 3 ⊗ v 3 ⊗ v 3 ⊗ v 5 ⊗ v 6) ⊕ v 1 ⊗ v 2 ⊗ v 3 ⊗ v 3 ⊗ v 3 ⊗ v 3 ⊗ v 4 ⊗ v 5 ⊗ v 5 ⊗ v 6), v 1 ⊗ v 1, rhs (v 6) (v 0) (v 1))
      ∷ ((- (v 0 ⊗ v 0 ⊗ v 0 ⊗ v 2 ⊗ v 2 ⊗ v 3 ⊗ v 4 ⊗ v 5 ⊗ v 5 ⊗ v 6) ⊖ (v 0 ⊗ v 0 ⊗ v 0 ⊗ v 2 ⊗ v 3 ⊗ v 3 ⊗ v 4 ⊗ v 4 ⊗ v 5 ⊗ v 6) ⊕ v 0 ⊗ v 0 ⊗ v 0 ⊗ v 2 ⊗ v 4 ⊗ v 4 ⊗ v 5 ⊗ v 5 ⊗ v 5 ⊗ v 6 ⊕ v 0 ⊗ v 0 ⊗ v 0 ⊗ v 2 ⊗ v 4 ⊗ v 4 ⊗ v 5 ⊖ (v 0 ⊗ v 0 ⊗ v 0 ⊗ v 2 ⊗ v 5 ⊗ v 5 ⊗ v 5) ⊕ v 0 ⊗ v 0 ⊗ v 0 ⊗ v 2 ⊗ v 5 ⊕ v 0 ⊗ v 0 ⊗ v 0 ⊗ v 3 ⊗ v 4 ⊗ v 4 ⊗ v 4 ⊗ v 5 ⊗ v 5 ⊗ v 6 ⊕ v 0 ⊗ v 0 ⊗ v 0 ⊗ v 3 ⊗ v 4 ⊗ v 4 ⊗ v 4 ⊖ (v 0 ⊗ v 0 ⊗ v 0 ⊗ v 3 ⊗ v 4 ⊗ v 5 ⊗ v 5) ⊕ v 0 ⊗ v 0 ⊗ v 0 ⊗ v 3 ⊗ v 4 ⊕ v 0 ⊗ v 0 ⊗ v 1 ⊗ v 2 ⊗ v 2 ⊗ v 3 ⊗ v 4 ⊗ v 4 ⊗ v 5 ⊗ v 5 ⊗ v 5 ⊗ v 6 ⊗ v 6 ⊕ v 0 ⊗ v 0 ⊗ v 1 ⊗ v 2 ⊗ v 2 ⊗ v 3 ⊗ v 4 ⊗ v 4 ⊗ v 5 ⊗ v 6 ⊖ (v 0 ⊗ v 0 ⊗ v 1 ⊗ v 2 ⊗ v 3 ⊗ v 3 ⊗ v 4 ⊗ v 4 ⊗ v 4 ⊗ v 5 ⊗ v 5 ⊗ v 6 ⊗ v 6) ⊕ v 0 ⊗ v 0 ⊗ v 1 ⊗ v 2 ⊗ v 3 ⊗ v 3 ⊗ v 4 ⊗ v 5 ⊗ v 5 ⊗ v 6 ⊕ v 0 ⊗ v 0 ⊗ v 1 ⊗ v 2 ⊗ v 4 ⊗ v 4 ⊗ v 4 ⊗ v 5 ⊗ v 5 ⊗ v 6 ⊕ v 0 ⊗ v 0 ⊗ v 1 ⊗ v 2 ⊗ v 4 ⊗ v 4 ⊗ v 4 ⊖ (v 0 ⊗ v 0 ⊗ v 1 ⊗ v 2 ⊗ v 4 ⊗ v 5 ⊗ v 5) ⊕ v 0 ⊗ v 0 ⊗ v 1 ⊗ v 2 ⊗ v 4 ⊕ v 0 ⊗ v 0 ⊗ v 1 ⊗ v 3 ⊗ v 4 ⊗ v 4 ⊗ v 5 ⊗ v 5 ⊗ v 5 ⊗ v 6 ⊕ v 0 ⊗ v 0 ⊗ v 1 ⊗ v 3 ⊗ v 4 ⊗ v 4 ⊗ v 5 ⊖ (v 0 ⊗ v 0 ⊗ v 1 ⊗ v 3 ⊗ v 5 ⊗ v 5 ⊗ v 5) ⊕ v 0 ⊗ v 0 ⊗ v 1 ⊗ v 3 ⊗ v 5 ⊖ (v 0 ⊗ v 1 ⊗ v 1 ⊗ v 2 ⊗ v 2 ⊗ v 3 ⊗ v 4 ⊗ v 4 ⊗ v 4 ⊗ v 5 ⊗ v 5 ⊗ v 6 ⊗ v 6) ⊕ v 0 ⊗ v 1 ⊗ v 1 ⊗ v 2 ⊗ v 2 ⊗ v 3 ⊗ v 4 ⊗ v 5 ⊗ v 5 ⊗ v 6 ⊕ v 0 ⊗ v 1 ⊗ v 1 ⊗ v 2 ⊗ v 3 ⊗ v 3 ⊗ v 4 ⊗ v 4 ⊗ v 5 ⊗ v 5 ⊗ v 5 ⊗ v 6 ⊗ v 6 ⊕ v 0 ⊗ v 1 ⊗ v 1 ⊗ v 2 ⊗ v 3 ⊗ v 3 ⊗ v 4 ⊗ v 4 ⊗ v 5 ⊗ v 6 ⊖ (v 0 ⊗ v 1 ⊗ v 1 ⊗ v 2 ⊗ v 4 ⊗ v 4 ⊗ v 5 ⊗ v 5 ⊗ v 5 ⊗ v 6) ⊖ (v 0 ⊗ v 1 ⊗ v 1 ⊗ v 2 ⊗ v 4 ⊗ v 4 ⊗ v 5) ⊕ v 0 ⊗ v 1 ⊗ v 1 ⊗ v 2 ⊗ v 5 ⊗ v 5 ⊗ v 5 ⊖ (v 0 ⊗ v 1 ⊗ v 1 ⊗ v 2 ⊗ v 5) ⊖ (v 0 ⊗ v 1 ⊗ v 1 ⊗ v 3 ⊗ v 4 ⊗ v 4 ⊗ v 4 ⊗ v 5 ⊗ v 5 ⊗ v 6) ⊖ (v 0 ⊗ v 1 ⊗ v 1 ⊗ v 3 ⊗ v 4 ⊗ v 4 ⊗ v 4) ⊕ v 0 ⊗ v 1 ⊗ v 1 ⊗ v 3 ⊗ v 4 ⊗ v 5 ⊗ v 5 ⊖ (v 0 ⊗ v 1 ⊗ v 1 ⊗ v 3 ⊗ v 4) ⊖ (v 0 ⊗ v 2 ⊗ v 2 ⊗ v 3 ⊗ v 4 ⊗ v 5 ⊗ v 5 ⊗ v 6) ⊖ (v 0 ⊗ v 2 ⊗ v 3 ⊗ v 3 ⊗ v 4 ⊗ v 4 ⊗ v 5 ⊗ v 6) ⊕ v 0 ⊗ v 2 ⊗ v 4 ⊗ v 4 ⊗ v 5 ⊗ v 5 ⊗ v 5 ⊗ v 6 ⊕ v 0 ⊗ v 2 ⊗ v 4 ⊗ v 4 ⊗ v 5 ⊖ (v 0 ⊗ v 2 ⊗ v 5 ⊗ v 5 ⊗ v 5) ⊕ v 0 ⊗ v 2 ⊗ v 5 ⊕ v 0 ⊗ v 3 ⊗ v 4 ⊗ v 4 ⊗ v 4 ⊗ v 5 ⊗ v 5 ⊗ v 6 ⊕ v 0 ⊗ v 3 ⊗ v 4 ⊗ v 4 ⊗ v 4 ⊖ (v 0 ⊗ v 3 ⊗ v 4 ⊗ v 5 ⊗ v 5) ⊕ v 0 ⊗ v 3 ⊗ v 4 ⊖ (v 1 ⊗ v 1 ⊗ v 1 ⊗ v 2 ⊗ v 2 ⊗ v 3 ⊗ v 4 ⊗ v 4 ⊗ v 5 ⊗ v 6) ⊖ (v 1 ⊗ v 1 ⊗ v 1 ⊗ v 2 ⊗ v 3 ⊗ v 3 ⊗ v 4 ⊗ v 5 ⊗ v 5 ⊗ v 6) ⊖ (v 1 ⊗ v 1 ⊗ v 1 ⊗ v 2 ⊗ v 4 ⊗ v 4 ⊗ v 4 ⊗ v 5 ⊗ v 5 ⊗ v 6) ⊖ (v 1 ⊗ v 1 ⊗ v 1 ⊗ v 2 ⊗ v 4 ⊗ v 4 ⊗ v 4) ⊕ v 1 ⊗ v 1 ⊗ v 1 ⊗ v 2 ⊗ v 4 ⊗ v 5 ⊗ v 5 ⊖ (v 1 ⊗ v 1 ⊗ v 1 ⊗ v 2 ⊗ v 4) ⊖ (v 1 ⊗ v 1 ⊗ v 1 ⊗ v 3 ⊗ v 4 ⊗ v 4 ⊗ v 5 ⊗ v 5 ⊗ v 5 ⊗ v 6) ⊖ (v 1 ⊗ v 1 ⊗ v 1 ⊗ v 3 ⊗ v 4 ⊗ v 4 ⊗ v 5) ⊕ v 1 ⊗ v 1 ⊗ v 1 ⊗ v 3 ⊗ v 5 ⊗ v 5 ⊗ v 5 ⊖ (v 1 ⊗ v 1 ⊗ v 1 ⊗ v 3 ⊗ v 5) ⊕ v 1 ⊗ v 2 ⊗ v 2 ⊗ v 3 ⊗ v 4 ⊗ v 4 ⊗ v 5 ⊗ v 6 ⊕ v 1 ⊗ v 2 ⊗ v 3 ⊗ v 3 ⊗ v 4 ⊗ v 5 ⊗ v 5 ⊗ v 6 ⊕ v 1 ⊗ v 2 ⊗ v 4 ⊗ v 4 ⊗ v 4 ⊗ v 5 ⊗ v 5 ⊗ v 6 ⊕ v 1 ⊗ v 2 ⊗ v 4 ⊗ v 4 ⊗ v 4 ⊖ (v 1 ⊗ v 2 ⊗ v 4 ⊗ v 5 ⊗ v 5) ⊕ v 1 ⊗ v 2 ⊗ v 4 ⊕ v 1 ⊗ v 3 ⊗ v 4 ⊗ v 4 ⊗ v 5 ⊗ v 5 ⊗ v 5 ⊗ v 6 ⊕ v 1 ⊗ v 3 ⊗ v 4 ⊗ v 4 ⊗ v 5 ⊖ (v 1 ⊗ v 3 ⊗ v 5 ⊗ v 5 ⊗ v 5) ⊕ v 1 ⊗ v 3 ⊗ v 5), v 3 ⊗ v 3, rhs (v 6) (v 2) (v 3))
      ∷ ((- (v 0 ⊗ v 0 ⊗ v 0 ⊗ v 2 ⊗ v 2 ⊗ v 2 ⊗ v 5) ⊖ (v 0 ⊗ v 0 ⊗ v 0 ⊗ v 2 ⊗ v 2 ⊗ v 3 ⊗ v 4) ⊕ v 0 ⊗ v 0 ⊗ v 0 ⊗ v 2 ⊗ v 3 ⊗ v 3 ⊗ v 5 ⊖ (v 0 ⊗ v 0 ⊗ v 0 ⊗ v 2 ⊗ v 5) ⊕ v 0 ⊗ v 0 ⊗ v 0 ⊗ v 3 ⊗ v 3 ⊗ v 3 ⊗ v 4 ⊖ (v 0 ⊗ v 0 ⊗ v 0 ⊗ v 3 ⊗ v 4) ⊖ (v 0 ⊗ v 0 ⊗ v 1 ⊗ v 2 ⊗ v 2 ⊗ v 2 ⊗ v 4) ⊖ (v 0 ⊗ v 0 ⊗ v 1 ⊗ v 2 ⊗ v 2 ⊗ v 3 ⊗ v 5 ⊗ v 6) ⊖ (v 0 ⊗ v 0 ⊗ v 1 ⊗ v 2 ⊗ v 2 ⊗ v 3 ⊗ v 5) ⊕ v 0 ⊗ v 0 ⊗ v 1 ⊗ v 2 ⊗ v 3 ⊗ v 3 ⊗ v 4 ⊗ v 6 ⊕ v 0 ⊗ v 0 ⊗ v 1 ⊗ v 2 ⊗ v 3 ⊗ v 3 ⊗ v 4 ⊖ (v 0 ⊗ v 0 ⊗ v 1 ⊗ v 2 ⊗ v 4) ⊕ v 0 ⊗ v 0 ⊗ v 1 ⊗ v 3 ⊗ v 3 ⊗ v 3 ⊗ v 5 ⊖ (v 0 ⊗ v 0 ⊗ v 1 ⊗ v 3 ⊗ v 5) ⊕ v 0 ⊗ v 1 ⊗ v 1 ⊗ v 2 ⊗ v 2 ⊗ v 2 ⊗ v 5 ⊕ v 0 ⊗ v 1 ⊗ v 1 ⊗ v 2 ⊗ v 2 ⊗ v 3 ⊗ v 4 ⊗ v 6 ⊕ v 0 ⊗ v 1 ⊗ v 1 ⊗ v 2 ⊗ v 2 ⊗ v 3 ⊗ v 4 ⊖ (v 0 ⊗ v 1 ⊗ v 1 ⊗ v 2 ⊗ v 3 ⊗ v 3 ⊗ v 5 ⊗ v 6) ⊖ (v 0 ⊗ v 1 ⊗ v 1 ⊗ v 2 ⊗ v 3 ⊗ v 3 ⊗ v 5) ⊕ v 0 ⊗ v 1 ⊗ v 1 ⊗ v 2 ⊗ v 5 ⊖ (v 0 ⊗ v 1 ⊗ v 1 ⊗ v 3 ⊗ v 3 ⊗ v 3 ⊗ v 4) ⊕ v 0 ⊗ v 1 ⊗ v 1 ⊗ v 3 ⊗ v 4 ⊖ (v 0 ⊗ v 2 ⊗ v 2 ⊗ v 2 ⊗ v 5) ⊖ (v 0 ⊗ v 2 ⊗ v 2 ⊗ v 3 ⊗ v 4) ⊕ v 0 ⊗ v 2 ⊗ v 3 ⊗ v 3 ⊗ v 5 ⊖ (v 0 ⊗ v 2 ⊗ v 5) ⊕ v 0 ⊗ v 3 ⊗ v 3 ⊗ v 3 ⊗ v 4 ⊖ (v 0 ⊗ v 3 ⊗ v 4) ⊕ v 1 ⊗ v 1 ⊗ v 1 ⊗ v 2 ⊗ v 2 ⊗ v 2 ⊗ v 4 ⊕ v 1 ⊗ v 1 ⊗ v 1 ⊗ v 2 ⊗ v 2 ⊗ v 3 ⊗ v 5 ⊖ (v 1 ⊗ v 1 ⊗ v 1 ⊗ v 2 ⊗ v 3 ⊗ v 3 ⊗ v 4) ⊕ v 1 ⊗ v 1 ⊗ v 1 ⊗ v 2 ⊗ v 4 ⊖ (v 1 ⊗ v 1 ⊗ v 1 ⊗ v 3 ⊗ v 3 ⊗ v 3 ⊗ v 5) ⊕ v 1 ⊗ v 1 ⊗ v 1 ⊗ v 3 ⊗ v 5 ⊖ (v 1 ⊗ v 2 ⊗ v 2 ⊗ v 2 ⊗ v 4) ⊖ (v 1 ⊗ v 2 ⊗ v 2 ⊗ v 3 ⊗ v 5) ⊕ v 1 ⊗ v 2 ⊗ v 3 ⊗ v 3 ⊗ v 4 ⊖ (v 1 ⊗ v 2 ⊗ v 4) ⊕ v 1 ⊗ v 3 ⊗ v 3 ⊗ v 3 ⊗ v 5 ⊖ (v 1 ⊗ v 3 ⊗ v 5)), v 5 ⊗ v 5, rhs (v 6) (v 4) (v 5)) ∷ []) refl
      (lookup f.over (p.0 ∷ p.1 ∷ q.0 ∷ q.1 ∷ r.0 ∷ r.1 ∷ d ∷ [])) (on, (on', (on'', tt)))
