-- Points in extended coordinates, as the code holds them.
use Rattle.std.specs.Prelude.{ℕ, ◌≡◌, ◌≢◌, ◌+◌, ◌*◌, ◌%◌, ◌^◌, [], ◌∷◌, refl}
use Rattle.std.proofs.Common.{sym, ap, ap₂, ◌∙◌, subst, arith}
use native.Mathlib.Fin.{val_path}
use Rattle.curve25519.specs.Modular.{of, modulo}
use Rattle.curve25519.specs.Field25519.{field, residue, least}
use Rattle.curve25519.specs.Extended.{extended, Represents}
use Rattle.curve25519.specs.Curve25519.{d, root_of_minus_one, Point, origin}
use Rattle.curve25519.proofs.Identities.{v, i, ◌⊗◌, -◌, lookup, ring, follows}
use Rattle.curve25519.proofs.Edwards.{one≢nil}
use Rattle.curve25519.proofs.Extended.{origin_rep, four}
use Rattle.curve25519.proofs.Sums.{extended_origin}
use Rattle.curve25519.proofs.Field25519.{laws, mul-inv, residue-zero, residue-one}
use Rattle.curve25519.proofs.Curve25519.{curve}
use Rattle.field25519.specs.Bytes.{joined_words, encode}
use Rattle.ed25519.specs.Points.{negative, encode_point}
open field use {Of, nil, one, add, mul, neg, inv}

-- ---- constants

pub constant : residue 37095705934669439343138083508754565189542113879843219016388785533085940283555 ≡ d
unfolding d
constant = refl

pub root_constant : residue 19681161376707505956807079304988542015446066515923890162744021073123829784752 ≡ root_of_minus_one
unfolding root_of_minus_one
root_constant = refl

-- (p + 1) / 2 twice is 1
pub halves :
    add (residue 28948022309329048855892746252171976963317496166410141009864396001978282409975) (residue 28948022309329048855892746252171976963317496166410141009864396001978282409975) ≡ one
unfolding residue field modulo of
halves = val_path refl

-- ---- coordinates

pub origin_is : (x y z t : Of) → x ≡ residue 0 → y ≡ residue 1 → z ≡ residue 1 → t ≡ residue 0 → Represents field (x, y, z, t) origin
origin_is x y z t ex ey ez et =
    subst (λ a. Represents field a origin) (sym (four curve (x, y, z, t) (extended_origin field) (ex ∙ residue-zero) (ey ∙ residue-one) (ez ∙ residue-one) (et ∙ residue-zero))) (origin_rep curve)

pub affine_is : (x y z t : Of) → z ≡ residue 1 → t ≡ mul x y → Represents field (x, y, z, t) (x, y)
affine_is x y z t ez et = (
  one,
  one≢nil curve.field,
  four curve (x, y, z, t) (extended field (x, y) one) (sym (laws.mul-one x)) (sym (laws.mul-one y)) (ez ∙ residue-one) (et ∙ sym (laws.mul-one (mul x y))),
)

pub negative_is : (q : Point) (x y z t x' y' z' t' : Of) → x' ≡ neg x → y' ≡ y → z' ≡ z → t' ≡ neg t → Represents field (x, y, z, t) q → Represents field (x', y', z', t') (negative q)
negative_is q x y z t x' y' z' t' ex ey ez et rep = (
  rep.0,
  rep.1,
  four curve (x', y', z', t') (extended field (negative q) rep.0)
      (ex ∙ ap neg (ap (λ a. a.0) rep.2) ∙ ring curve.field.over 2 (- (v 0 ⊗ v 1)) (- (v 0) ⊗ v 1) refl (lookup curve.field.over (q.0 ∷ rep.0 ∷ [])))
      (ey ∙ ap (λ a. a.1) rep.2) (ez ∙ ap (λ a. a.2) rep.2)
      (et ∙ ap neg (ap (λ a. a.3) rep.2) ∙ ring curve.field.over 3 (- (v 0 ⊗ v 1 ⊗ v 2)) (- (v 0) ⊗ v 1 ⊗ v 2) refl (lookup curve.field.over (q.0 ∷ q.1 ∷ rep.0 ∷ []))),
)

-- ---- bytes

ratio : (a z : Of) → z ≢ nil → mul (mul a z) (inv z) ≡ a
ratio a z h =
    follows curve.field.over 3 (v 0 ⊗ v 1 ⊗ v 2) (v 0) ((v 0, v 1 ⊗ v 2, i) ∷ []) refl (lookup curve.field.over (a ∷ z ∷ inv z ∷ [])) (mul-inv z h, tt)

pub first_is : (q : Point) (x y z t r w : Of) → Represents field (x, y, z, t) q → w ≡ inv z → r ≡ mul x w → r ≡ q.0
first_is q x y z t r w rep ew e = e ∙ ap₂ mul (ap (λ s. s.0) rep.2) (ew ∙ ap (λ s. inv s.2) rep.2) ∙ ratio q.0 rep.0 rep.1

pub second_is : (q : Point) (x y z t r w : Of) → Represents field (x, y, z, t) q → w ≡ inv z → r ≡ mul y w → r ≡ q.1
second_is q x y z t r w rep ew e = e ∙ ap₂ mul (ap (λ s. s.1) rep.2) (ew ∙ ap (λ s. inv s.2) rep.2) ∙ ratio q.1 rep.0 rep.1

pub point_is : (q : Point) (x y : Of) (a b c d a' b' c' d' side : ℕ) → x ≡ q.0 → y ≡ q.1
    → joined_words a b c d ≡ least x → joined_words a' b' c' d' ≡ least y → side ≡ a % 2
    → encode (joined_words a' b' c' (d' + side * 9223372036854775808)) ≡ encode_point q
point_is q x y a b c d a' b' c' d' side ex ey ea eb es =
    ap encode (shape a' b' c' d' side ∙ ap₂ (λ m s. m + 2 ^ 255 * s) (eb ∙ ap least ey) (es ∙ parity a b c d ∙ ap (λ n. n % 2) (ea ∙ ap least ex)))
  where
    shape : (a b c d s : ℕ) → joined_words a b c (d + s * 9223372036854775808) ≡ joined_words a b c d + 2 ^ 255 * s
    shape a b c d s = omega arith

    parity : (a b c d : ℕ) → a % 2 ≡ joined_words a b c d % 2
    parity a b c d = omega arith
