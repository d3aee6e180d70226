-- A square root where p is 5 modulo 8: what decoding a point of Ed25519 computes, up to the sign.
use Rattle.std.proofs.Common.{◌≡◌, ℕ, zero, suc, ◌+◌, ◌*◌, [], ◌∷◌, refl, sym, ap, ap₂, ◌∙◌, ◌≢◌, ◌⊎◌, inl, inr, zero-add, suc-add, arith}
use Rattle.curve25519.proofs.Ring.{one-mul}
use Rattle.curve25519.proofs.Identities.{v, i, o, ◌⊕◌, ◌⊗◌, ◌⊖◌, lookup, follows, -◌}
use Rattle.curve25519.proofs.Field.{Field, factor}

module _ (f : Field) where
  open f.over.numbers use {Of, nil, one, add, mul, neg}

  unfoldable pub pow : Of → ℕ → Of
  pow x zero = one
  pow x (suc n) = mul x (pow x n)

  pow-add : (x : Of) (m n : ℕ) → pow x (m + n) ≡ mul (pow x m) (pow x n)
  unfolding pow
  pow-add x zero n = ap (pow x) (zero-add n) ∙ sym (one-mul f.over (pow x n))
  pow-add x (suc m) n = ap (pow x) (suc-add m n) ∙ ap (mul x) (pow-add x m n) ∙ sym (f.over.laws.mul-assoc x (pow x m) (pow x n))

  pow-square : (x : Of) (n : ℕ) → pow (mul x x) n ≡ pow x (n + n)
  unfolding pow
  pow-square x zero = refl
  pow-square x (suc n) = ap (mul (mul x x)) (pow-square x n) ∙ f.over.laws.mul-assoc x x (pow x (n + n)) ∙ ap (pow x) twice
    where
      twice : suc (suc (n + n)) ≡ suc n + suc n
      twice = omega arith

  -- a root of a square is one of two
  two_roots : (x y : Of) → mul x x ≡ mul y y → (x ≡ y) ⊎ (x ≡ neg y)
  two_roots x y e = go (f.decide x y)
    where
      go : (x ≡ y) ⊎ (x ≢ y) → (x ≡ y) ⊎ (x ≡ neg y)
      go (inl h) = inl h
      go (inr h) = inr (follows f.over 2 (v 0) (- (v 1)) ((i, v 0 ⊕ v 1, o) ∷ []) refl (lookup f.over (x ∷ y ∷ [])) (
        factor f (add x (neg y)) (add x y) (follows f.over 2 ((v 0 ⊖ v 1) ⊗ (v 0 ⊕ v 1)) o ((i, v 0 ⊗ v 0, v 1 ⊗ v 1) ∷ []) refl (lookup f.over (x ∷ y ∷ [])) (e, tt))
            (λ z. h (follows f.over 2 (v 0) (v 1) ((i, v 0 ⊖ v 1, o) ∷ []) refl (lookup f.over (x ∷ y ∷ [])) (z, tt))),
        tt,
      ))

  -- p - 1 is 8 * e + 4, and s * s is -1
  module _ (s : Of) (e : ℕ) (square : mul s s ≡ neg one) (fermat : (x : Of) → x ≢ nil → pow x (8 * e + 4) ≡ one) where
    unfoldable pub choose : (z r : Of) → (mul r r ≡ z) ⊎ (mul r r ≢ z) → Of
    choose z r (inl h) = r
    choose z r (inr h) = mul s r

    unfoldable pub root : Of → Of
    root z = choose z (pow z (e + 1)) (f.decide (mul (pow z (e + 1)) (pow z (e + 1))) z)

    -- the fourth power's square is 1
    sign : (x : Of) → x ≢ nil → (pow x (4 * e + 2) ≡ one) ⊎ (pow x (4 * e + 2) ≡ neg one)
    sign x h = two_roots (pow x (4 * e + 2)) one (sym (pow-add x (4 * e + 2) (4 * e + 2)) ∙ ap (pow x) (omega arith) ∙ fermat x h ∙ sym (f.over.laws.mul-one one))

    candidate : (x : Of) → mul (pow (mul x x) (e + 1)) (pow (mul x x) (e + 1)) ≡ mul (pow x (4 * e + 2)) (mul x x)
    unfolding pow
    candidate x =
        ap₂ mul (pow-square x (e + 1)) (pow-square x (e + 1)) ∙ sym (pow-add x (e + 1 + (e + 1)) (e + 1 + (e + 1))) ∙ ap (pow x) sizes
        ∙ pow-add x (4 * e + 2) 2 ∙ ap (λ t. mul (pow x (4 * e + 2)) (mul x t)) (f.over.laws.mul-one x)
      where
        sizes : e + 1 + (e + 1) + (e + 1 + (e + 1)) ≡ 4 * e + 2 + 2
        sizes = omega arith

    -- THE ROOT OF A SQUARE, up to its sign
    pub root_of_square : (x : Of) → x ≢ nil → (root (mul x x) ≡ x) ⊎ (root (mul x x) ≡ neg x)
    unfolding root choose
    root_of_square x h = go (f.decide (mul r r) (mul x x)) (sign x h)
      where
        r : Of
        r = pow (mul x x) (e + 1)

        go : (d : (mul r r ≡ mul x x) ⊎ (mul r r ≢ mul x x)) → (pow x (4 * e + 2) ≡ one) ⊎ (pow x (4 * e + 2) ≡ neg one)
            → (choose (mul x x) r d ≡ x) ⊎ (choose (mul x x) r d ≡ neg x)
        go (inl k) t = two_roots r x k
        go (inr k) (inl t) = absurd (k (candidate x ∙ ap (λ t. mul t (mul x x)) t ∙ one-mul f.over (mul x x)))
        go (inr k) (inr t) = two_roots (mul s r) x
            (follows f.over 4 ((v 0 ⊗ v 1) ⊗ (v 0 ⊗ v 1)) (v 2 ⊗ v 2) ((v 1 ⊗ v 1, v 0 ⊗ v 0, - i) ∷ (- i, v 1 ⊗ v 1, v 3 ⊗ (v 2 ⊗ v 2)) ∷ (- (v 2 ⊗ v 2), v 3, - i) ∷ []) refl
            (lookup f.over (s ∷ r ∷ x ∷ pow x (4 * e + 2) ∷ [])) (square, (candidate x, (t, tt))))
