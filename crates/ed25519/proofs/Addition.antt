-- What the additions and doublings of the code compute.
use Rattle.std.specs.Prelude.{ℕ, ◌≡◌, ◌+◌, ◌*◌, [], ◌∷◌, refl}
use Rattle.std.proofs.Common.{sym, ap, ap₂, ◌∙◌, subst, arith}
use Rattle.curve25519.specs.Field25519.{field}
use Rattle.curve25519.specs.Extended.{Extended, extended, Represents}
use Rattle.curve25519.specs.Curve25519.{d as curve_d, Point, On, ◌+ₚ◌, multiple}
use Rattle.curve25519.proofs.Identities.{v, i, ◌⊕◌, ◌⊗◌, -◌, ◌⊖◌, lookup, ring, follows}
use Rattle.curve25519.proofs.Edwards.{one≢nil}
use Rattle.curve25519.proofs.Group.{multiples_add}
use Rattle.curve25519.proofs.Extended.{add_rep, four}
use Rattle.curve25519.proofs.Sums.{add_extended}
use Rattle.curve25519.proofs.Field25519.{laws}
use Rattle.curve25519.proofs.Curve25519.{curve}
use Rattle.ed25519.specs.Coordinates.{of_factors}
use Rattle.ed25519.proofs.Doubling.{double_extended, double_rep}
open field use {Of, one, add, mul, neg}

-- ---- a cached point, by its four numbers

abbrev pub Cached : Of → Of → Of → Of → Point → Type 0
Cached sum difference z product q =
    (e : Extended field) × Represents field e q × (add sum difference ≡ e.1) × (add sum (neg difference) ≡ e.0) × (z ≡ e.2) × (product ≡ mul curve_d e.3)

pub halved : (x y h s d : Of) → add h h ≡ one → s ≡ mul (add y x) h → d ≡ mul (add y (neg x)) h → (add s d ≡ y) × (add s (neg d) ≡ x)
halved x y h s d eh es ed = (
  follows curve.field.over 5 (v 3 ⊕ v 4) (v 1) ((i, v 3, (v 1 ⊕ v 0) ⊗ v 2) ∷ (i, v 4, (v 1 ⊖ v 0) ⊗ v 2) ∷ (v 1, v 2 ⊕ v 2, i) ∷ []) refl (lookup curve.field.over (x ∷ y ∷ h ∷ s ∷ d ∷ [])) (es, (ed, (eh, tt))),
  follows curve.field.over 5 (v 3 ⊖ v 4) (v 0) ((i, v 3, (v 1 ⊕ v 0) ⊗ v 2) ∷ (- i, v 4, (v 1 ⊖ v 0) ⊗ v 2) ∷ (v 0, v 2 ⊕ v 2, i) ∷ []) refl (lookup curve.field.over (x ∷ y ∷ h ∷ s ∷ d ∷ [])) (es, (ed, (eh, tt))),
)

pub cached_is : (a : Extended field) (q : Point) (h s d z p : Of) → Represents field a q → add h h ≡ one → s ≡ mul (add a.1 a.0) h → d ≡ mul (add a.1 (neg a.0)) h → z ≡ a.2 → p ≡ mul curve_d a.3
    → Cached s d z p q
cached_is a q h s d z p rep eh es ed ez ep = let both = halved a.0 a.1 h s d eh es ed in (a, rep, both.0, both.1, ez, ep)

-- a row of the table, with 1 for z
pub cached_row : (q : Point) (s d p z s' d' p' : Of) → s' ≡ s → d' ≡ d → z ≡ one → p' ≡ p → add s d ≡ q.1 → add s (neg d) ≡ q.0 → p ≡ mul curve_d (mul q.0 q.1)
    → Cached s' d' z p' q
cached_row q s d p z s' d' p' es ed ez ep ey ex et = (
  extended field q one,
  (one, one≢nil curve.field, refl),
  ap₂ add es ed ∙ ey ∙ sym (laws.mul-one q.1),
  ap₂ (λ a b. add a (neg b)) es ed ∙ ex ∙ sym (laws.mul-one q.0),
  ez,
  ep ∙ et ∙ ap (mul curve_d) (sym (laws.mul-one (mul q.0 q.1))),
)

-- ---- an addition

-- X 0, Y 1, S 2, D 3
crossed : (x y s d x' y' : Of) → add s d ≡ y' → add s (neg d) ≡ x' → add (mul (add y x) s) (neg (mul (add y (neg x)) d)) ≡ add (mul x y') (mul y x')
crossed x y s d x' y' ey ex =
    ring curve.field.over 4 ((v 1 ⊕ v 0) ⊗ v 2 ⊖ (v 1 ⊖ v 0) ⊗ v 3) (v 0 ⊗ (v 2 ⊕ v 3) ⊕ v 1 ⊗ (v 2 ⊖ v 3)) refl (lookup curve.field.over (x ∷ y ∷ s ∷ d ∷ []))
    ∙ ap₂ (λ b a. add (mul x b) (mul y a)) ey ex

straight : (x y s d x' y' : Of) → add s d ≡ y' → add s (neg d) ≡ x' → add (mul (add y x) s) (mul (add y (neg x)) d) ≡ add (mul y y') (mul x x')
straight x y s d x' y' ey ex =
    ring curve.field.over 4 ((v 1 ⊕ v 0) ⊗ v 2 ⊕ (v 1 ⊖ v 0) ⊗ v 3) (v 1 ⊗ (v 2 ⊕ v 3) ⊕ v 0 ⊗ (v 2 ⊖ v 3)) refl (lookup curve.field.over (x ∷ y ∷ s ∷ d ∷ []))
    ∙ ap₂ (λ b a. add (mul y b) (mul x a)) ey ex

third : (t p t' : Of) → p ≡ mul curve_d t' → mul t p ≡ mul curve_d (mul t t')
third t p t' ep = ap (mul t) ep ∙ ring curve.field.over 3 (v 0 ⊗ (v 2 ⊗ v 1)) (v 2 ⊗ (v 0 ⊗ v 1)) refl (lookup curve.field.over (t ∷ t' ∷ curve_d ∷ []))

pub added : (r a : Extended field) (p q : Point) (s d z t A B C D E F G H : Of) → On p → On q → Represents field a p → Cached s d z t q
    → A ≡ mul (add a.1 (neg a.0)) d → B ≡ mul (add a.1 a.0) s → C ≡ mul a.3 t → D ≡ mul a.2 z
    → E ≡ add B (neg A) → F ≡ add D (neg C) → G ≡ add D C → H ≡ add B A → r ≡ of_factors E F G H → Represents field r (p +ₚ q)
added r a p q s d z t A B C D E F G H on on' ra c eA eB eC eD eE eF eG eH er =
    subst (λ x. Represents field x (p +ₚ q)) (sym (er ∙ sums)) (add_rep curve a c.0 p q on on' ra c.1)
  where
    e : E ≡ add (mul a.0 c.0.1) (mul a.1 c.0.0)
    e = eE ∙ ap₂ (λ b a. add b (neg a)) eB eA ∙ crossed a.0 a.1 s d c.0.0 c.0.1 c.2 c.3

    k : C ≡ mul curve_d (mul a.3 c.0.3)
    k = eC ∙ third a.3 t c.0.3 c.5

    m : D ≡ mul a.2 c.0.2
    m = eD ∙ ap (mul a.2) c.4

    f : F ≡ add (mul a.2 c.0.2) (neg (mul curve_d (mul a.3 c.0.3)))
    f = eF ∙ ap₂ (λ x y. add x (neg y)) m k

    g : G ≡ add (mul a.2 c.0.2) (mul curve_d (mul a.3 c.0.3))
    g = eG ∙ ap₂ add m k

    h : H ≡ add (mul a.1 c.0.1) (mul a.0 c.0.0)
    h = eH ∙ ap₂ add eB eA ∙ straight a.0 a.1 s d c.0.0 c.0.1 c.2 c.3

    sums : of_factors E F G H ≡ add_extended field curve_d a c.0
    sums = four curve (of_factors E F G H) (add_extended field curve_d a c.0) (ap₂ mul e f) (ap₂ mul g h) (ap₂ mul f g) (ap₂ mul e h)

-- ---- a doubling

pub doubled : (r a : Extended field) (q : Point) (A B C D N G E F H : Of) → On q → Represents field a q
    → A ≡ mul a.0 a.0 → B ≡ mul a.1 a.1 → C ≡ mul a.2 (add a.2 a.2) → D ≡ mul a.0 a.1 → N ≡ one → G ≡ mul N (add B (neg A))
    → E ≡ add D D → F ≡ add C (neg G) → H ≡ add B A → r ≡ of_factors E F G H → Represents field r (q +ₚ q)
doubled r a q A B C D N G E F H on ra eA eB eC eD eN eG eE eF eH er =
    subst (λ x. Represents field x (q +ₚ q)) (sym (er ∙ same)) (double_rep curve a q on ra)
  where
    g : G ≡ add (mul a.1 a.1) (neg (mul a.0 a.0))
    g = eG ∙ ap₂ mul eN (ap₂ (λ b a. add b (neg a)) eB eA) ∙ laws.mul-comm one (add (mul a.1 a.1) (neg (mul a.0 a.0))) ∙ laws.mul-one (add (mul a.1 a.1) (neg (mul a.0 a.0)))

    e : E ≡ add (mul a.0 a.1) (mul a.0 a.1)
    e = eE ∙ ap₂ add eD eD

    f : F ≡ add (mul a.2 (add a.2 a.2)) (neg (add (mul a.1 a.1) (neg (mul a.0 a.0))))
    f = eF ∙ ap₂ (λ x y. add x (neg y)) eC g

    h : H ≡ add (mul a.1 a.1) (mul a.0 a.0)
    h = eH ∙ ap₂ add eB eA

    same : of_factors E F G H ≡ double_extended curve a
    same = four curve (of_factors E F G H) (double_extended curve a) (ap₂ mul e f) (ap₂ mul g h) (ap₂ mul f g) (ap₂ mul e h)

-- ---- multiples

twice : (q : Point) (m : ℕ) → On q → multiple q m +ₚ multiple q m ≡ multiple q (2 * m)
twice q m on = multiples_add curve q on m m ∙ ap (multiple q) (even m)
  where
    even : (m : ℕ) → m + m ≡ 2 * m
    even m = omega arith

pub four_times : (a : Extended field) (q : Point) (m : ℕ) → On q
    → Represents field a (multiple q m +ₚ multiple q m +ₚ (multiple q m +ₚ multiple q m)) → Represents field a (multiple q (4 * m))
four_times a q m on r = subst (Represents field a) (ap₂ ◌+ₚ◌ (twice q m on) (twice q m on) ∙ twice q (2 * m) on ∙ ap (multiple q) (four m)) r
  where
    four : (m : ℕ) → 2 * (2 * m) ≡ 4 * m
    four m = omega arith
