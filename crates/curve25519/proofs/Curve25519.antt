-- The curve of X25519 and Ed25519: its constant is no square, so its law is complete, and it has the base point.
use Rattle.std.proofs.Common.{◌≡◌, ◌⊎◌, inl, inr, ℕ, ◌+◌, ◌-◌, ◌*◌, ◌%◌, ◌^◌, ltb-true, refl, sym, ap, ◌∙◌, zero-mul}
use Rattle.std.proofs.lemmas.Bool.{cases_eq, eqb-false}
use Rattle.std.proofs.lemmas.Nat.{mul-mod}
use native.Mathlib.Fin.{val_path}
use Prim.Native.Nat.{Fin}
use Rattle.curve25519.specs.Modular.{of, modulo}
use Rattle.curve25519.specs.Powers.{power}
use Rattle.curve25519.specs.Edwards.{NotSquare}
use Rattle.curve25519.specs.Field25519.{prime, field, residue, least}
use Rattle.curve25519.specs.Curve25519.{d, root_of_minus_one, On, ◌+ₚ◌, multiple, base}
use Rattle.curve25519.specs.Laws.{MultipleLaw}
use Rattle.curve25519.proofs.Powers.{power_is, power_square}
use Rattle.curve25519.proofs.Field25519.{fermat, field25519}
use Rattle.curve25519.proofs.Group.{Curve, multiples_add, multiple-zero, multiple-one, commutes_here}

abbrev d_number : ℕ
d_number = 37095705934669439343138083508754565189542113879843219016388785533085940283555

-- p is 5 modulo 8, and d is no square: d to the (p - 1) / 2 is p - 1
abbrev half : ℕ
half = 28948022309329048855892746252171976963317496166410141009864396001978282409974

euler : (x : ℕ) → x * x % prime ≡ d_number → ⊥
euler x e = go (cases_eq (x % prime) 0)
  where
    computed : power prime d_number half ≡ prime - 1
    computed = sym (power_is 255 prime d_number half (ltb-true half (2 ^ 255) refl))

    go : (x % prime ≡ 0) ⊎ (x % prime ≡ 0 → ⊥) → ⊥
    go (inl h) = eqb-false d_number 0 refl (sym e ∙ mul-mod x x prime ∙ ap (λ t. t * (x % prime) % prime) h ∙ ap (λ t. t % prime) (zero-mul (x % prime)))
    go (inr h) = eqb-false 1 (prime - 1) refl (sym (fermat x h) ∙ sym (power_square prime x half) ∙ ap (λ t. power prime t half) e ∙ computed)

pub root : field.mul root_of_minus_one root_of_minus_one ≡ field.neg field.one
unfolding root_of_minus_one residue field modulo of
root = val_path refl

pub constant : field.mul (residue 121666) d ≡ field.neg (residue 121665)
unfolding d residue field modulo of
constant = val_path refl

pub not_square : NotSquare field d
unfolding d residue field modulo of
not_square x e = euler x.0 (ap (λ (y : Fin prime). y.0) e)

abbrev pub curve : Curve
curve = record { field = field25519; d = d; s = root_of_minus_one; root = root; not_square = not_square }

pub base_on : On base
unfolding base d residue field modulo of
base_on = val_path refl

pub base_height : field.mul (residue 5) base.1 ≡ residue 4
unfolding base residue field modulo of
base_height = val_path refl

pub base_even : least base.0 % 2 ≡ 0
unfolding base residue least field modulo of
base_even = refl

pub multiple_law : MultipleLaw
multiple_law = record {
  none = multiple-zero curve;
  once = multiple-one curve;
  sum = λ p m n on. sym (commutes_here curve (multiple p m) (multiple p n) ∙ multiples_add curve p on m n);
}

-- THE MULTIPLES OF THE BASE POINT ADD UP
pub base_adds : (m n : ℕ) → (multiple base n +ₚ multiple base m) ≡ multiple base (m + n)
base_adds m n = multiples_add curve base base_on m n
