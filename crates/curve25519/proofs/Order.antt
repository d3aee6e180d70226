-- The order of the base point: L times it is the origin, computed by the kernel in extended coordinates.
use Rattle.std.proofs.Common.{◌≡◌, ℕ, ◌+◌, ◌*◌, ◌%◌, ◌^◌, ltb-true, refl, sym, ap, ap₂, subst, ◌∙◌}
use native.Mathlib.Fin.{val_path}
use Rattle.curve25519.proofs.Field.{factor, cancel_factor}
use Rattle.curve25519.proofs.Edwards.{Pair, one≢nil}
use Rattle.curve25519.proofs.Group.{Curve, ◌+ₚ◌, origin, multiple, multiple-one, signature_equation}
use Rattle.curve25519.proofs.Extended.{Extended, extended, times_extended, extended_origin, Represents, times_is}
use Rattle.curve25519.specs.Modular.{of, modulo}
use Rattle.curve25519.specs.Field25519.{field, residue}
use Rattle.curve25519.specs.Curve25519.{d, base, order}
use Rattle.curve25519.proofs.Curve25519.{curve, base_on}

base_ext : Extended curve
base_ext = extended curve base curve.field.over.numbers.one

product_of_base : Extended curve
unfolding base_ext
product_of_base = times_extended curve 253 order base_ext (extended_origin curve)

computed_x : product_of_base.0 ≡ curve.field.over.numbers.nil
unfolding product_of_base base_ext base d residue field modulo of
computed_x = val_path refl

computed_y : product_of_base.1 ≡ product_of_base.2
unfolding product_of_base base_ext base d residue field modulo of
computed_y = val_path refl

module _ (c : Curve) where
  open c.field.over.numbers use {Of, nil, one, mul}

  -- a point whose first coordinate is 0 and whose second and third agree is the origin
  is_origin : (a : Extended c) (m : Pair c.field) → Represents c a m → a.0 ≡ nil → a.1 ≡ a.2 → m ≡ origin c
  is_origin a m r x y =
      let h : mul m.0 r.0 ≡ nil = sym (ap (λ (t : Extended c). t.0) r.2) ∙ x in
      let k : mul m.1 r.0 ≡ mul one r.0 = sym (ap (λ (t : Extended c). t.1) r.2) ∙ y ∙ ap (λ (t : Extended c). t.2) r.2 ∙ sym (c.field.over.laws.mul-one r.0) ∙ c.field.over.laws.mul-comm r.0 one in
      ap₂ (λ s t. (s, t)) (factor c.field r.0 m.0 (c.field.over.laws.mul-comm r.0 m.0 ∙ h) r.1) (cancel_factor c.field m.1 one r.0 r.1 k)

  starts : (b : Pair c.field) → Represents c (extended c b one) (multiple c b 1)
  starts b = subst (Represents c (extended c b one)) (sym (multiple-one c b)) (one, one≢nil c.field, refl)

pub order_of_base : multiple curve base order ≡ origin curve
unfolding product_of_base base_ext
order_of_base =
    is_origin curve product_of_base (multiple curve base order)
    (times_is curve 253 order base base_ext base_on (ltb-true order (2 ^ 253) refl) (starts curve base)) computed_x computed_y

-- THE EQUATION OF ED25519
pub signature_law : (r k a : ℕ) → multiple curve base ((r + k * a) % order) ≡ ◌+ₚ◌ curve (multiple curve base r) (multiple curve (multiple curve base a) k)
signature_law r k a = signature_equation curve base base_on order r k a order_of_base
