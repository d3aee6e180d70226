-- The opposite of a point, and what a signer's equation comes to.
use Rattle.std.specs.Prelude.{ℕ, ◌≡◌, ◌+◌, ◌-◌, ◌*◌, ◌%◌, [], ◌∷◌, refl}
use Rattle.std.proofs.Common.{sym, ap, ap₂, ◌∙◌, arith}
use Rattle.curve25519.specs.Field25519.{field}
use Rattle.curve25519.specs.Curve25519.{d, Point, On, ◌+ₚ◌, origin, multiple, base, order}
use Rattle.curve25519.proofs.Identities.{Term, v, i, o, ◌⊕◌, ◌⊗◌, -◌, ◌⊖◌, lookup, ring, follows}
use Rattle.curve25519.proofs.Edwards.{below_x, below_y}
use Rattle.curve25519.proofs.Group.{multiple_on, multiples_add, multiple-mul, multiple-mod, with_origin, commutes_here, associates, inverse_y}
use Rattle.curve25519.proofs.Curve25519.{curve, base_on}
use Rattle.curve25519.proofs.Order.{order_of_base}
use Rattle.ed25519.specs.Points.{negative}
open field use {inv}

abbrev right : Term
right = v 0 ⊗ v 0 ⊕ i ⊕ v 2 ⊗ v 0 ⊗ v 0 ⊗ v 1 ⊗ v 1

pub negative_on : (q : Point) → On q → On (negative q)
negative_on q on =
    follows curve.field.over 3 (v 1 ⊗ v 1) (- (v 0) ⊗ - (v 0) ⊕ i ⊕ v 2 ⊗ - (v 0) ⊗ - (v 0) ⊗ v 1 ⊗ v 1) ((i, v 1 ⊗ v 1, right) ∷ []) refl
    (lookup curve.field.over (q.0 ∷ q.1 ∷ d ∷ [])) (on, tt)

cancels : (q : Point) → On q → (q +ₚ negative q) ≡ origin
cancels q on =
    ap₂ (λ x y. (x, y))
    (ring curve.field.over 3 ((v 0 ⊗ v 1 ⊕ v 1 ⊗ - (v 0)) ⊗ v 2) o refl (lookup curve.field.over (q.0 ∷ q.1 ∷ field.inv (below_x curve.field d q (negative q)) ∷ [])))
    (follows curve.field.over 4 ((v 1 ⊗ v 1 ⊕ v 0 ⊗ - (v 0)) ⊗ v 3) i
    ((v 3, v 1 ⊗ v 1, right) ∷ (i, (i ⊖ v 2 ⊗ v 0 ⊗ - (v 0) ⊗ v 1 ⊗ v 1) ⊗ v 3, i) ∷ []) refl
    (lookup curve.field.over (q.0 ∷ q.1 ∷ d ∷ field.inv (below_y curve.field d q (negative q)) ∷ []))
    (on, (inverse_y curve q (negative q) on (negative_on q on), tt)))

-- what adds up to the origin is the negative
negative_is : (q x : Point) → On q → On x → (q +ₚ x) ≡ origin → negative q ≡ x
negative_is q x on on' e =
    sym (with_origin curve (negative q)) ∙ ap (λ t. negative q +ₚ t) (sym e) ∙ sym (associates curve (negative q) q x (negative_on q on) on on')
    ∙ ap (λ t. t +ₚ x) (commutes_here curve (negative q) q ∙ cancels q on) ∙ commutes_here curve origin x ∙ with_origin curve x

turns : (n m : ℕ) → n % order ≡ m % order → multiple base n ≡ multiple base m
turns n m e = sym (multiple-mod curve base base_on order n order_of_base) ∙ ap (multiple base) e ∙ multiple-mod curve base base_on order m order_of_base

negative_multiple : (a : ℕ) → negative (multiple base a) ≡ multiple base ((order - 1) * a)
negative_multiple a =
    negative_is (multiple base a) (multiple base ((order - 1) * a)) (multiple_on curve base base_on a) (multiple_on curve base base_on ((order - 1) * a))
    (multiples_add curve base base_on ((order - 1) * a) a ∙ turns ((order - 1) * a + a) 0 (omega arith) ∙ turns 0 order (omega arith) ∙ order_of_base)

-- [S]B - [k]A is [r]B
pub returns : (r k a : ℕ) → (multiple base ((r + k * a) % order) +ₚ multiple (negative (multiple base a)) k) ≡ multiple base r
returns r k a =
    ap₂ ◌+ₚ◌ (multiple-mod curve base base_on order (r + k * a) order_of_base)
    (ap (λ t. multiple t k) (negative_multiple a) ∙ multiple-mul curve base base_on ((order - 1) * a) k)
    ∙ multiples_add curve base base_on (k * ((order - 1) * a)) (r + k * a)
    ∙ turns (k * ((order - 1) * a) + (r + k * a)) r (omega arith)
