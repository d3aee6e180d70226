-- The rows of the table are the multiples of the base point, by computing them.
use Rattle.std.specs.Prelude.{ℕ, ◌≡◌, ◌≢◌, zero, suc, ◌+◌, ◌*◌, ◌^◌, ◌<◌, Bool, true, ◌&&◌, List, [], ◌∷◌, length, get_or, refl}
use Rattle.std.proofs.Common.{sym, ap, ap₂, ◌∙◌, subst, arith}
use Rattle.std.proofs.Math.Nat.{pow-suc}
use Rattle.std.proofs.lemmas.Nat.{pow-add}
use Rattle.std.proofs.lemmas.Bool.{and_parts}
use Rattle.curve25519.specs.Modular.{of, modulo}
use Rattle.curve25519.specs.Field25519.{field, residue, least}
use Rattle.curve25519.specs.Extended.{Extended, extended, Represents}
use Rattle.curve25519.specs.Curve25519.{d, Point, multiple, base}
use Rattle.curve25519.proofs.Field.{cancel_factor}
use Rattle.curve25519.proofs.Edwards.{one≢nil}
use Rattle.curve25519.proofs.Group.{multiple_on, multiples_add, multiple-zero, multiple-one}
use Rattle.curve25519.proofs.Extended.{add_rep, origin_rep}
use Rattle.curve25519.proofs.Sums.{add_extended, extended_origin}
use Rattle.curve25519.proofs.Curve25519.{curve, base_on}
use Rattle.ed25519.specs.declared.base_multiple.Row.{Row}
use Rattle.ed25519.specs.declared.multiples.TheConstants.{MULTIPLES}
use Rattle.ed25519.specs.Points.{same}
use Rattle.ed25519.specs.Rows.{row_of, field_number, IsRowOf}
use Rattle.ed25519.proofs.Branches.{same_is}
open field use {Of, nil, one, add, mul, neg}

-- the row is that of coordinates X, Y, Z
fits_y : Extended field → Row → Bool
fits_y a r = same (mul (add (field_number r.sum) (field_number r.difference)) a.2) a.1

fits_x : Extended field → Row → Bool
fits_x a r = same (mul (add (field_number r.sum) (neg (field_number r.difference))) a.2) a.0

fits_product : Row → Bool
fits_product r =
    same (field_number r.product) (mul d (mul (add (field_number r.sum) (neg (field_number r.difference))) (add (field_number r.sum) (field_number r.difference))))

fits : Extended field → Row → Bool
fits a r = fits_y a r && (fits_x a r && fits_product r)

quotient : (n x z t : Of) → z ≢ nil → z ≡ t → mul n t ≡ mul x z → n ≡ x
quotient n x z t h e k = cancel_factor curve.field n x z h (ap (mul n) e ∙ k)

fits_is : (a : Extended field) (r : Row) (q : Point) → Represents field a q → fits a r ≡ true → IsRowOf r q
unfolding fits fits_y fits_x fits_product
fits_is a r q rep h = (y, x, same_is (field_number r.product) _ others.1 ∙ ap₂ (λ s t. mul d (mul s t)) x y)
  where
    others : (fits_x a r ≡ true) × (fits_product r ≡ true)
    others = and_parts (fits_x a r) (fits_product r) (and_parts (fits_y a r) (fits_x a r && fits_product r) h).1

    z : rep.0 ≡ a.2
    z = sym (ap (λ (t : Extended field). t.2) rep.2)

    y : add (field_number r.sum) (field_number r.difference) ≡ q.1
    y =
        quotient (add (field_number r.sum) (field_number r.difference)) q.1 rep.0 a.2 rep.1 z
        (same_is _ a.1 (and_parts (fits_y a r) (fits_x a r && fits_product r) h).0 ∙ ap (λ (t : Extended field). t.1) rep.2)

    x : add (field_number r.sum) (neg (field_number r.difference)) ≡ q.0
    x =
        quotient (add (field_number r.sum) (neg (field_number r.difference))) q.0 rep.0 a.2 rep.1 z
        (same_is _ a.0 others.0 ∙ ap (λ (t : Extended field). t.0) rep.2)

-- n rows from row k on, where a is k times g
are_rows : ℕ → ℕ → Extended field → Extended field → List ℕ → Bool
are_rows zero k g a list = true
are_rows (suc n) k g a list = fits a (row_of list k) && are_rows n (suc k) g (add_extended field d a g) list

rows : (n k i m : ℕ) (g a : Extended field) (list : List ℕ) → Represents field g (multiple base m) → Represents field a (multiple base (k * m)) → are_rows n k g a list ≡ true → i < n
    → IsRowOf (row_of list (k + i)) (multiple base ((k + i) * m))
unfolding are_rows
rows zero k i m g a list rg ra h l = absurd (omega (arith, l))
rows (suc n) k zero m g a list rg ra h l =
    subst (λ j. IsRowOf (row_of list j) (multiple base (j * m))) (none k) (fits_is a (row_of list k) (multiple base (k * m)) ra (and_parts _ _ h).0)
  where
    none : (k : ℕ) → k ≡ k + 0
    none k = omega arith
rows (suc n) k (suc i) m g a list rg ra h l =
    subst (λ j. IsRowOf (row_of list j) (multiple base (j * m))) (next k i)
    (rows n (suc k) i m g (add_extended field d a g) list rg more (and_parts _ _ h).1 (omega (arith, l)))
  where
    next : (k i : ℕ) → suc k + i ≡ k + suc i
    next k i = omega arith

    once : (k m : ℕ) → m + k * m ≡ suc k * m
    once k m = omega arith

    more : Represents field (add_extended field d a g) (multiple base (suc k * m))
    more =
        subst (Represents field (add_extended field d a g)) (multiples_add curve base base_on m (k * m) ∙ ap (multiple base) (once k m))
        (add_rep curve a g (multiple base (k * m)) (multiple base m) (multiple_on curve base base_on (k * m)) (multiple_on curve base base_on m) ra rg)

-- doubled n times
turned : ℕ → Extended field → Extended field
turned zero g = g
turned (suc n) g = turned n (add_extended field d g g)

turned_rep : (n m : ℕ) (g : Extended field) → Represents field g (multiple base m) → Represents field (turned n g) (multiple base (2 ^ n * m))
unfolding turned
turned_rep zero m g r = subst (λ t. Represents field g (multiple base t)) (unit m) r
  where
    unit : (m : ℕ) → m ≡ 1 * m
    unit m = omega arith
turned_rep (suc n) m g r =
    subst (λ t. Represents field (turned n (add_extended field d g g)) (multiple base t)) (twice (2 ^ n) m ∙ ap (λ t. t * m) (sym (pow-suc 2 n)))
    (turned_rep n (m + m) (add_extended field d g g)
    (subst (Represents field (add_extended field d g g)) (multiples_add curve base base_on m m)
    (add_rep curve g g (multiple base m) (multiple base m) (multiple_on curve base base_on m) (multiple_on curve base base_on m) r r)))
  where
    twice : (w m : ℕ) → w * (m + m) ≡ w * 2 * m
    twice w m = omega arith

-- lists of sixteen rows, each of 16^8 times the one before
are_lists : Extended field → List (List ℕ) → Bool
are_lists g [] = true
are_lists g (list ∷ lists) = are_rows 16 0 g (extended_origin field) list && are_lists (turned 32 g) lists

lists_are : (j k m : ℕ) (g : Extended field) (lists : List (List ℕ)) → Represents field g (multiple base m) → are_lists g lists ≡ true → j < length lists → k < 16
    → IsRowOf (row_of (get_or lists j []) k) (multiple base (k * (16 ^ (8 * j) * m)))
unfolding are_lists
lists_are j k m g [] r h l low = absurd (omega (arith, l))
lists_are zero k m g (list ∷ lists) r h l low =
    subst (λ t. IsRowOf (row_of list k) (multiple base (k * t))) (unit m)
    (subst (λ j. IsRowOf (row_of list j) (multiple base (j * m))) (none k)
    (rows 16 0 k m g (extended_origin field) list r (subst (λ t. Represents field (extended_origin field) t) (sym (ap (multiple base) (nothing m) ∙ multiple-zero curve base)) (origin_rep curve)) (and_parts _ _ h).0 low))
  where
    unit : (m : ℕ) → m ≡ 1 * m
    unit m = omega arith

    none : (k : ℕ) → 0 + k ≡ k
    none k = omega arith

    nothing : (m : ℕ) → 0 * m ≡ 0
    nothing m = omega arith
lists_are (suc j) k m g (list ∷ lists) r h l low =
    subst (λ t. IsRowOf (row_of (get_or lists j []) k) (multiple base (k * t))) (shift (16 ^ (8 * j)) m ∙ ap (λ t. t * m) (sym (pow-add 16 8 (8 * j)) ∙ ap (λ t. 16 ^ t) (next j)))
    (lists_are j k (2 ^ 32 * m) (turned 32 g) lists (turned_rep 32 m g r) (and_parts _ _ h).1 (omega (arith, l)) low)
  where
    next : (j : ℕ) → 8 + 8 * j ≡ 8 * suc j
    next j = omega arith

    shift : (w m : ℕ) → w * (2 ^ 32 * m) ≡ 16 ^ 8 * w * m
    shift w m = omega arith

base_extended : Extended field
base_extended = extended field base one

base_is : Represents field base_extended (multiple base 1)
unfolding base_extended
base_is = subst (Represents field (extended field base one)) (sym (multiple-one curve base)) (one, one≢nil curve.field, refl)

computed : are_lists base_extended MULTIPLES ≡ true
unfolding are_lists are_rows fits fits_y fits_x fits_product turned base_extended base d residue least field modulo of
computed = refl

-- THE TABLE
pub multiples_are : (j k : ℕ) → j < 8 → k < 16 → IsRowOf (row_of (get_or MULTIPLES j []) k) (multiple base (k * 16 ^ (8 * j)))
multiples_are j k l low =
    subst (λ t. IsRowOf (row_of (get_or MULTIPLES j []) k) (multiple base (k * t))) (unit (16 ^ (8 * j)))
    (lists_are j k 1 base_extended MULTIPLES base_is computed l low)
  where
    unit : (w : ℕ) → w * 1 ≡ w
    unit w = omega arith
