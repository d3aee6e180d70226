-- Extended coordinates, and a multiple by doubling and adding.
use Rattle.std.proofs.Common.{◌≡◌, ℕ, zero, suc, ◌+◌, ◌*◌, ◌/◌, ◌%◌, ◌^◌, ◌<◌, [], ◌∷◌, refl, sym, ap, ap₂, subst, ◌∙◌, ◌≢◌, mul-one, div-add-mod', arith}
use Rattle.curve25519.specs.Extended.{Extended as Extended_of, extended as extended_of, Represents as Represents_of}
use Rattle.curve25519.proofs.Identities.{Term, v, i, o, ◌⊕◌, ◌⊗◌, ◌⊖◌, lookup, ring, follows, -◌}
use Rattle.curve25519.proofs.Field.{not_product}
use Rattle.curve25519.proofs.Sums.{add_extended as add_extended_of, extended_origin as extended_origin_of}
use Rattle.curve25519.proofs.Edwards.{Pair, below_x, below_y, below_x≢nil, below_y≢nil, one≢nil}
use Rattle.curve25519.proofs.Group.{Curve, On, ◌+ₚ◌, inverse_x, inverse_y, origin, multiple, multiple_on, multiples_add, multiple-zero}

module _ (c : Curve) where
  open c use {field, d, s, root, not_square}
  open c.field.over.numbers use {Of, nil, one, add, mul, neg}

  -- the definitions over the curve's field
  abbrev pub Extended : Type 0
  Extended = Extended_of field.over.numbers

  abbrev pub extended : Pair field → Of → Extended
  extended = extended_of field.over.numbers

  abbrev pub add_extended : Extended → Extended → Extended
  add_extended = add_extended_of field.over.numbers d

  abbrev pub Represents : Extended → Pair field → Type 0
  Represents = Represents_of field.over.numbers

  abbrev pub extended_origin : Extended
  extended_origin = extended_origin_of field.over.numbers

  -- x 0, y 1, z 2, x' 3, y' 4, z' 5, d 6, 1/k 7, 1/l 8
  abbrev tE : Term
  tE = v 0 ⊗ v 2 ⊗ (v 4 ⊗ v 5) ⊕ v 1 ⊗ v 2 ⊗ (v 3 ⊗ v 5)

  abbrev tF : Term
  tF = v 2 ⊗ v 5 ⊖ v 6 ⊗ (v 0 ⊗ v 1 ⊗ v 2 ⊗ (v 3 ⊗ v 4 ⊗ v 5))

  abbrev tG : Term
  tG = v 2 ⊗ v 5 ⊕ v 6 ⊗ (v 0 ⊗ v 1 ⊗ v 2 ⊗ (v 3 ⊗ v 4 ⊗ v 5))

  abbrev tH : Term
  tH = v 1 ⊗ v 2 ⊗ (v 4 ⊗ v 5) ⊕ v 0 ⊗ v 2 ⊗ (v 3 ⊗ v 5)

  abbrev tK : Term
  tK = i ⊕ v 6 ⊗ v 0 ⊗ v 3 ⊗ v 1 ⊗ v 4

  abbrev tL : Term
  tL = i ⊖ v 6 ⊗ v 0 ⊗ v 3 ⊗ v 1 ⊗ v 4

  abbrev tN : Term
  tN = v 0 ⊗ v 4 ⊕ v 1 ⊗ v 3

  abbrev tM : Term
  tM = v 1 ⊗ v 4 ⊕ v 0 ⊗ v 3

  abbrev tW : Term
  tW = v 2 ⊗ v 5 ⊗ (v 2 ⊗ v 5)

  abbrev values : (p q : Pair field) (z w : Of) → ℕ → Of
  values p q z w = lookup field.over (p.0 ∷ p.1 ∷ z ∷ q.0 ∷ q.1 ∷ w ∷ d ∷ field.over.numbers.inv (below_x field d p q) ∷ field.over.numbers.inv (below_y field d p q) ∷ [])

  -- the last coordinate z of the sum
  abbrev low : (p q : Pair field) (z w : Of) → Of
  low p q z w = (add_extended (extended p z) (extended q w)).2

  sum_0 : (p q : Pair field) (z w : Of) → On c p → On c q → (add_extended (extended p z) (extended q w)).0 ≡ mul (◌+ₚ◌ c p q).0 (low p q z w)
  sum_0 p q z w on on' = follows field.over 9 (tE ⊗ tF) (tN ⊗ v 7 ⊗ (tF ⊗ tG)) ((- (tW ⊗ tN ⊗ tL), tK ⊗ v 7, i) ∷ []) refl (values p q z w) (inverse_x c p q on on', tt)

  sum_1 : (p q : Pair field) (z w : Of) → On c p → On c q → (add_extended (extended p z) (extended q w)).1 ≡ mul (◌+ₚ◌ c p q).1 (low p q z w)
  sum_1 p q z w on on' = follows field.over 9 (tG ⊗ tH) (tM ⊗ v 8 ⊗ (tF ⊗ tG)) ((- (tW ⊗ tM ⊗ tK), tL ⊗ v 8, i) ∷ []) refl (values p q z w) (inverse_y c p q on on', tt)

  sum_3 : (p q : Pair field) (z w : Of) → On c p → On c q → (add_extended (extended p z) (extended q w)).3 ≡ mul (mul (◌+ₚ◌ c p q).0 (◌+ₚ◌ c p q).1) (low p q z w)
  sum_3 p q z w on on' =
      follows field.over 9 (tE ⊗ tH) (tN ⊗ v 7 ⊗ (tM ⊗ v 8) ⊗ (tF ⊗ tG)) ((- (tW ⊗ tN ⊗ tM ⊗ tL ⊗ v 8), tK ⊗ v 7, i) ∷ (- (tW ⊗ tN ⊗ tM), tL ⊗ v 8, i) ∷ []) refl
      (values p q z w) (inverse_x c p q on on', (inverse_y c p q on on', tt))

  low≢nil : (p q : Pair field) (z w : Of) → On c p → On c q → z ≢ nil → w ≢ nil → low p q z w ≢ nil
  low≢nil p q z w on on' h k e =
      not_product field (mul (mul z w) (mul z w)) (mul (below_y field d p q) (below_x field d p q))
      (not_product field (mul z w) (mul z w) (not_product field z w h k) (not_product field z w h k))
      (not_product field (below_y field d p q) (below_x field d p q) (below_y≢nil field d s p q not_square root on on') (below_x≢nil field d s p q not_square root on on'))
      (ring field.over 9 (tW ⊗ (tL ⊗ tK)) (tF ⊗ tG) refl (values p q z w) ∙ e)

  pub four : (a b : Extended) → a.0 ≡ b.0 → a.1 ≡ b.1 → a.2 ≡ b.2 → a.3 ≡ b.3 → a ≡ b
  four a b h k l m = λ t. (h t, k t, l t, m t)

  -- THE COORDINATES ADD AS THE POINTS DO
  pub add_rep : (a b : Extended) (p q : Pair field) → On c p → On c q → Represents a p → Represents b q → Represents (add_extended a b) (◌+ₚ◌ c p q)
  add_rep a b p q on on' r t = (
    low p q r.0 t.0,
    low≢nil p q r.0 t.0 on on' r.1 t.1,
    ap₂ add_extended r.2 t.2 ∙ four (add_extended (extended p r.0) (extended q t.0)) (extended (◌+ₚ◌ c p q) (low p q r.0 t.0)) (sum_0 p q r.0 t.0 on on') (sum_1 p q r.0 t.0 on on') refl (sum_3 p q r.0 t.0 on on'),
  )

  abbrev pub times_extended : ℕ → ℕ → Extended → Extended → Extended
  times_extended zero n b acc = acc
  times_extended (suc f) n b acc = elim (n % 2) [ zero ↦ times_extended f (n / 2) (add_extended b b) acc | suc k ↦ times_extended f (n / 2) (add_extended b b) (add_extended acc b) ]

  pub origin_rep : Represents extended_origin (origin c)
  origin_rep = (
    one,
    one≢nil field,
    four extended_origin (extended (origin c) one) (sym (field.over.laws.mul-one nil)) (sym (field.over.laws.mul-one one)) refl
        (ring field.over 0 o (o ⊗ i ⊗ i) refl (lookup field.over [])),
  )

  halved : (f n : ℕ) → n < 2 ^ suc f → n / 2 < 2 ^ f
  halved f n h = omega arith

  -- b is k times the point, acc is m times: the result is m + n * k times
  times_rep : (f n k m : ℕ) (a : Pair field) (b acc : Extended) → On c a → n < 2 ^ f → Represents b (multiple c a k) → Represents acc (multiple c a m) → Represents (times_extended f n b acc) (multiple c a (m + n * k))
  times_rep zero n k m a b acc on h rb racc = subst (λ t. Represents acc (multiple c a t)) (nothing n h) racc
    where
      nothing : (n : ℕ) → n < 2 ^ 0 → m ≡ m + n * k
      nothing zero h = omega arith
      nothing (suc n) h = absurd (omega arith)
  times_rep (suc f) n k m a b acc on h rb racc =
      let twice : Represents (add_extended b b) (multiple c a (k + k)) = subst (Represents (add_extended b b)) (multiples_add c a on k k) (add_rep b b (multiple c a k) (multiple c a k) (multiple_on c a on k) (multiple_on c a on k) rb rb) in
      let more : Represents (add_extended acc b) (multiple c a (k + m)) = subst (Represents (add_extended acc b)) (multiples_add c a on k m) (add_rep acc b (multiple c a m) (multiple c a k) (multiple_on c a on m) (multiple_on c a on k) racc rb) in
      go (n % 2) refl (times_rep f (n / 2) (k + k) m a (add_extended b b) acc on (halved f n h) twice racc) (times_rep f (n / 2) (k + k) (k + m) a (add_extended b b) (add_extended acc b) on (halved f n h) twice more)
    where
      go : (j : ℕ) → n % 2 ≡ j → Represents (times_extended f (n / 2) (add_extended b b) acc) (multiple c a (m + n / 2 * (k + k))) → Represents (times_extended f (n / 2) (add_extended b b) (add_extended acc b)) (multiple c a (k + m + n / 2 * (k + k)))
          → Represents (elim j [ zero ↦ times_extended f (n / 2) (add_extended b b) acc | suc l ↦ times_extended f (n / 2) (add_extended b b) (add_extended acc b) ]) (multiple c a (m + n * k))
      go zero even r t = subst (λ t. Represents (times_extended f (n / 2) (add_extended b b) acc) (multiple c a t)) (omega (arith, ap (λ x. x * k) (sym (div-add-mod' n 2) ∙ ap (λ x. n / 2 * 2 + x) even))) r
      go (suc l) rest r t = subst (λ t. Represents (times_extended f (n / 2) (add_extended b b) (add_extended acc b)) (multiple c a t)) (omega (arith, ap (λ x. x * k) (sym (div-add-mod' n 2) ∙ ap (λ x. n / 2 * 2 + x) odd))) t
        where
          odd : n % 2 ≡ 1
          odd = omega (arith, rest)

  pub times_is : (f n : ℕ) (a : Pair field) (b : Extended) → On c a → n < 2 ^ f → Represents b (multiple c a 1) → Represents (times_extended f n b extended_origin) (multiple c a n)
  times_is f n a b on h r = subst (λ t. Represents (times_extended f n b extended_origin) (multiple c a t)) (omega (arith, mul-one n)) (times_rep f n 1 0 a b extended_origin on h r origin_reps)
    where
      origin_reps : Represents extended_origin (multiple c a 0)
      origin_reps = subst (Represents extended_origin) (sym (multiple-zero c a)) origin_rep
