-- X25519 at the base point 9: two scalars commute.
use Rattle.std.proofs.Common.{◌≡◌, ◌≢◌, ℕ, ◌+◌, ◌-◌, ◌*◌, ◌/◌, ◌%◌, ◌^◌, ◌<◌, ◌≤◌, ltb-true, refl, sym, ap, subst, ◌∙◌, div-add-mod', arith}
use Rattle.std.proofs.lemmas.Bool.{eqb-false}
use native.Mathlib.Fin.{val_path}
use Prim.Native.Nat.{Fin}
use Rattle.curve25519.proofs.Group.{origin, multiple}
use Rattle.curve25519.specs.Modular.{of, modulo}
use Rattle.curve25519.specs.Field25519.{prime, field, residue}
use Rattle.curve25519.specs.Curve25519.{d, base, order, u_of, origin as neutral}
use Rattle.curve25519.specs.Ladder.{exchange}
use Rattle.curve25519.specs.X25519.{a24, nine, x25519, clear_cofactor}
use Rattle.curve25519.specs.Laws.{LadderLaw, CofactorLaw, LowOrderLaw}
use Rattle.curve25519.proofs.Field25519.{laws, inv-nil}
use Rattle.curve25519.proofs.Curve25519.{curve, base_on}
use Rattle.curve25519.proofs.Order.{order_of_base}
use Rattle.curve25519.proofs.OrderPrime.{p_order}
use Rattle.curve25519.proofs.Exchange.{Base, mont_of, exchange_any, commutes, exchanges_nonzero, mont, mont_is}

law : field.mul a24 (field.add field.one d) ≡ field.neg d
unfolding a24 d residue field modulo of
law = val_path refl

pub not_origin : base ≢ origin curve
unfolding base residue field modulo of
not_origin e = eqb-false 15112221349535400772501151409588531511454012693041857206046113283949847762202 0 refl (ap (λ (t : Fin prime × Fin prime). t.0.0) e)

pub the_base : Base curve base order
the_base = record {
  on_curve = base_on;
  prime = p_order.prime;
  odd = ltb-true 2 order refl;
  turns = order_of_base;
  moves = not_origin;
}

-- 9 * (1 - y) is 1 + y at the base point
nine_stands : field.mul nine (field.add field.one (field.neg base.1)) ≡ field.add field.one base.1
unfolding nine base residue field modulo of
nine_stands = val_path refl

low_nonzero : field.add field.one (field.neg base.1) ≢ field.nil
unfolding base residue field modulo of
low_nonzero e = eqb-false ((1 + (prime - 46316835694926478169428394003475163141307993866256225615783033603165251855960)) % prime) 0 refl (ap (λ (t : Fin prime). t.0) e)

nine_is : mont curve base ≡ nine
nine_is = mont_is curve base nine nine_stands low_nonzero

pub base_coordinate : u_of base ≡ nine
base_coordinate = sym (mont_of curve base) ∙ nine_is

-- the ladder takes the u-coordinate of a point to that of its multiple
pub ladder_law : LadderLaw
ladder_law n p low on h =
    ap (exchange field a24 255 n) (sym (mont_of curve p)) ∙ exchange_any curve inv-nil a24 255 n p on h law low ∙ mont_of curve (multiple curve p n)

pub cofactor_law : CofactorLaw
cofactor_law p on h =
    ap (exchange field a24 4 8) (sym (mont_of curve p)) ∙ exchange_any curve inv-nil a24 4 8 p on h law (ltb-true 8 (2 ^ 4) refl) ∙ mont_of curve (multiple curve p 8)

neutral_coordinate : u_of neutral ≡ field.nil
neutral_coordinate =
    ap (λ t. field.mul (field.add field.one field.one) (field.inv t)) (laws.add-neg field.one) ∙ ap (field.mul (field.add field.one field.one)) inv-nil ∙ laws.mul-nil (field.add field.one field.one)

pub low_order_law : LowOrderLaw
low_order_law p on h e = cofactor_law p on h ∙ ap u_of e ∙ neutral_coordinate

-- a clamped scalar is no multiple of the order
clamped : (n : ℕ) → 2 ^ 254 ≤ 8 * n → 8 * n < 2 ^ 255 → 8 * n % order ≢ 0
clamped n low high e = few (8 * n / order) (sym whole ∙ div-add-mod' (8 * n) order) (omega (arith, whole, div-add-mod' (8 * n) order))
  where
    whole : 8 * n / order * order + 8 * n % order ≡ 8 * n / order * order
    whole = omega (arith, e)

    few : (q : ℕ) → q * order ≡ 8 * n → q < 8 → ⊥
    few q h l = omega arith

-- THE LAW
pub exchange_law : (m n : ℕ) → 2 ^ 254 ≤ 8 * m → 8 * m < 2 ^ 255 → 2 ^ 254 ≤ 8 * n → 8 * n < 2 ^ 255
    → x25519 (8 * m) (x25519 (8 * n) nine) ≡ x25519 (8 * n) (x25519 (8 * m) nine)
exchange_law m n l h l' h' =
    subst (λ u. exchange field a24 255 (8 * m) (exchange field a24 255 (8 * n) u) ≡ exchange field a24 255 (8 * n) (exchange field a24 255 (8 * m) u)) nine_is
    (commutes curve a24 255 base order (8 * m) (8 * n) the_base law h h' (clamped m l h) (clamped n l' h'))

-- what two clamped scalars take 9 to isn't 0
pub x25519_nonzero : (m n : ℕ) → 2 ^ 254 ≤ 8 * m → 8 * m < 2 ^ 255 → 2 ^ 254 ≤ 8 * n → 8 * n < 2 ^ 255
    → x25519 (8 * m) (x25519 (8 * n) nine) ≢ field.nil
x25519_nonzero m n l h l' h' =
    subst (λ u. exchange field a24 255 (8 * m) (exchange field a24 255 (8 * n) u) ≢ field.nil) nine_is
    (exchanges_nonzero curve a24 255 255 base order (8 * m) (8 * n) the_base law h h' (clamped m l h) (clamped n l' h'))

-- ---- eight times, which brings points of low order to 0

-- what a clamped scalar takes 9 to isn't of low order
pub clear_cofactor_nonzero : (n : ℕ) → 2 ^ 254 ≤ 8 * n → 8 * n < 2 ^ 255 → clear_cofactor (x25519 (8 * n) nine) ≢ field.nil
clear_cofactor_nonzero n l h =
    subst (λ u. exchange field a24 4 8 (exchange field a24 255 (8 * n) u) ≢ field.nil) nine_is
    (exchanges_nonzero curve a24 4 255 base order 8 (8 * n) the_base law (ltb-true 8 (2 ^ 4) refl) h (λ e. eqb-false (8 % order) 0 refl e) (clamped n l h))
