-- A field: a ring with an inverse, in which equality is decided.
use Rattle.std.proofs.Common.{◌≡◌, ◌≢◌, ◌⊎◌, [], ◌∷◌, refl}
use Rattle.curve25519.proofs.Ring.{Ring}
use Rattle.curve25519.proofs.Identities.{v, i, o, ◌⊗◌, ◌⊖◌, lookup, follows, -◌}

pub record Field : Type 1 where
  pub over : Ring
  pub mul-inv : (x : over.numbers.Of) → x ≢ over.numbers.nil → over.numbers.mul x (over.numbers.inv x) ≡ over.numbers.one
  pub decide : (x y : over.numbers.Of) → (x ≡ y) ⊎ (x ≢ y)
  pub two≢nil : over.numbers.add over.numbers.one over.numbers.one ≢ over.numbers.nil

module _ (f : Field) where
  open f.over.numbers use {Of, nil, one, add, mul, neg}

  -- a product that is 0
  pub factor : (x y : Of) → mul x y ≡ nil → x ≢ nil → y ≡ nil
  factor x y e h = follows f.over 3 (v 1) o ((- (v 1), v 0 ⊗ v 2, i) ∷ (v 2, v 0 ⊗ v 1, o) ∷ []) refl (lookup f.over (x ∷ y ∷ f.over.numbers.inv x ∷ [])) (f.mul-inv x h, (e, tt))

  pub not_product : (x y : Of) → x ≢ nil → y ≢ nil → mul x y ≢ nil
  not_product x y h k e = k (factor x y e h)

  pub cancel_factor : (x y z : Of) → z ≢ nil → mul x z ≡ mul y z → x ≡ y
  cancel_factor x y z h e =
      follows f.over 4 (v 0) (v 1) ((v 3, v 0 ⊗ v 2, v 1 ⊗ v 2) ∷ (- (v 0 ⊖ v 1), v 2 ⊗ v 3, i) ∷ []) refl (lookup f.over (x ∷ y ∷ z ∷ f.over.numbers.inv z ∷ [])) (e, (f.mul-inv z h, tt))
