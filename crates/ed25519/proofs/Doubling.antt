-- The doubling formula gives coordinates of the sum of a point and itself.
use Rattle.std.proofs.Common.{◌≡◌, ◌≢◌, ℕ, [], ◌∷◌, refl, ap, ◌∙◌}
use Rattle.curve25519.proofs.Identities.{Term, v, i, ◌⊕◌, ◌⊗◌, -◌, ◌⊖◌, lookup, follows}
use Rattle.curve25519.proofs.Field.{not_product}
use Rattle.curve25519.proofs.Edwards.{Pair, below_x, below_y, below_x≢nil, below_y≢nil}
use Rattle.curve25519.proofs.Group.{Curve, On, ◌+ₚ◌, inverse_x, inverse_y}
use Rattle.curve25519.proofs.Extended.{Extended, extended, Represents, four}

module _ (c : Curve) where
  open c use {field, d, s, root, not_square}
  open c.field.over.numbers use {Of, nil, one, add, mul, neg}

  -- the four factors, of which the coordinates are products
  abbrev pub double_e : Extended c → Of
  double_e a = add (mul a.0 a.1) (mul a.0 a.1)

  abbrev pub double_g : Extended c → Of
  double_g a = add (mul a.1 a.1) (neg (mul a.0 a.0))

  abbrev pub double_f : Extended c → Of
  double_f a = add (mul a.2 (add a.2 a.2)) (neg (double_g a))

  abbrev pub double_h : Extended c → Of
  double_h a = add (mul a.1 a.1) (mul a.0 a.0)

  abbrev pub double_extended : Extended c → Extended c
  double_extended a = (mul (double_e a) (double_f a), mul (double_g a) (double_h a), mul (double_f a) (double_g a), mul (double_e a) (double_h a))

  -- x 0, y 1, z 2, d 3, 1/k 4, 1/l 5
  abbrev tX : Term
  tX = v 0 ⊗ v 2

  abbrev tY : Term
  tY = v 1 ⊗ v 2

  abbrev tE : Term
  tE = tX ⊗ tY ⊕ tX ⊗ tY

  abbrev tG : Term
  tG = tY ⊗ tY ⊖ tX ⊗ tX

  abbrev tF : Term
  tF = v 2 ⊗ (v 2 ⊕ v 2) ⊖ tG

  abbrev tH : Term
  tH = tY ⊗ tY ⊕ tX ⊗ tX

  abbrev tR : Term
  tR = v 0 ⊗ v 0 ⊕ i ⊕ v 3 ⊗ v 0 ⊗ v 0 ⊗ v 1 ⊗ v 1

  abbrev tK : Term
  tK = i ⊕ v 3 ⊗ v 0 ⊗ v 0 ⊗ v 1 ⊗ v 1

  abbrev tL : Term
  tL = i ⊖ v 3 ⊗ v 0 ⊗ v 0 ⊗ v 1 ⊗ v 1

  abbrev tN : Term
  tN = v 0 ⊗ v 1 ⊕ v 1 ⊗ v 0

  abbrev tM : Term
  tM = v 1 ⊗ v 1 ⊕ v 0 ⊗ v 0

  -- (l - o) (k + o) is l k + o times this, where o is y^2 less its other side
  abbrev tO : Term
  tO = tL ⊖ tK ⊖ (v 1 ⊗ v 1 ⊖ tR)

  abbrev tW : Term
  tW = v 2 ⊗ v 2 ⊗ (v 2 ⊗ v 2)

  abbrev values : (p : Pair field) (z : Of) → ℕ → Of
  values p z = lookup field.over (p.0 ∷ p.1 ∷ z ∷ d ∷ field.over.numbers.inv (below_x field d p p) ∷ field.over.numbers.inv (below_y field d p p) ∷ [])

  abbrev low : (p : Pair field) (z : Of) → Of
  low p z = (double_extended (extended c p z)).2

  double_0 : (p : Pair field) (z : Of) → On c p → (double_extended (extended c p z)).0 ≡ mul (◌+ₚ◌ c p p).0 (low p z)
  double_0 p z on =
      follows field.over 6 (tE ⊗ tF) (tN ⊗ v 4 ⊗ (tF ⊗ tG))
      ((- (tF ⊗ tN ⊗ v 2 ⊗ v 2 ⊗ v 4), v 1 ⊗ v 1, tR) ∷ (- (tF ⊗ tN ⊗ v 2 ⊗ v 2), tK ⊗ v 4, i) ∷ []) refl
      (values p z) (on, (inverse_x c p p on on, tt))

  double_1 : (p : Pair field) (z : Of) → On c p → (double_extended (extended c p z)).1 ≡ mul (◌+ₚ◌ c p p).1 (low p z)
  double_1 p z on =
      follows field.over 6 (tG ⊗ tH) (tM ⊗ v 5 ⊗ (tF ⊗ tG))
      ((tG ⊗ tM ⊗ v 2 ⊗ v 2 ⊗ v 5, v 1 ⊗ v 1, tR) ∷ (- (tG ⊗ tM ⊗ v 2 ⊗ v 2), tL ⊗ v 5, i) ∷ []) refl
      (values p z) (on, (inverse_y c p p on on, tt))

  double_3 : (p : Pair field) (z : Of) → On c p → (double_extended (extended c p z)).3 ≡ mul (mul (◌+ₚ◌ c p p).0 (◌+ₚ◌ c p p).1) (low p z)
  double_3 p z on =
      follows field.over 6 (tE ⊗ tH) (tN ⊗ v 4 ⊗ (tM ⊗ v 5) ⊗ (tF ⊗ tG))
      ((- (tN ⊗ tM ⊗ tW ⊗ v 4 ⊗ v 5 ⊗ tO), v 1 ⊗ v 1, tR) ∷ (- (tN ⊗ tM ⊗ tW ⊗ (tL ⊗ v 5)), tK ⊗ v 4, i) ∷ (- (tN ⊗ tM ⊗ tW), tL ⊗ v 5, i) ∷ []) refl
      (values p z) (on, (inverse_x c p p on on, (inverse_y c p p on on, tt)))

  low≢nil : (p : Pair field) (z : Of) → On c p → z ≢ nil → low p z ≢ nil
  low≢nil p z on h e =
      not_product field (mul (mul z z) (mul z z)) (mul (below_y field d p p) (below_x field d p p))
      (not_product field (mul z z) (mul z z) (not_product field z z h h) (not_product field z z h h))
      (not_product field (below_y field d p p) (below_x field d p p) (below_y≢nil field d s p p not_square root on on) (below_x≢nil field d s p p not_square root on on))
      (follows field.over 6 (tW ⊗ (tL ⊗ tK)) (tF ⊗ tG) ((- (tW ⊗ tO), v 1 ⊗ v 1, tR) ∷ []) refl (values p z) (on, tt) ∙ e)

  -- THE DOUBLING FORMULA is the addition law at a point and itself
  pub double_rep : (a : Extended c) (p : Pair field) → On c p → Represents c a p → Represents c (double_extended a) (◌+ₚ◌ c p p)
  double_rep a p on r = (
    low p r.0,
    low≢nil p r.0 on r.1,
    ap double_extended r.2 ∙ four c (double_extended (extended c p r.0)) (extended c (◌+ₚ◌ c p p) (low p r.0)) (double_0 p r.0 on) (double_1 p r.0 on) refl (double_3 p r.0 on),
  )
