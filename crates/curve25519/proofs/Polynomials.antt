-- A proved normaliser of polynomials in k variables with coefficients in ℕ: lists of lists .. of numbers, which the
-- kernel computes with.
use Rattle.std.proofs.Common.{ℕ, zero, suc, ◌+◌, ◌*◌, Bool, true, false, ◌&&◌, List, [], ◌∷◌, eqb, ltb}

-- ---- polynomials

abbrev pub P : ℕ → Type 0
P zero = ℕ
P (suc k) = List (P k)

abbrev pub plus_list : {A : Type 0} → (A → A → A) → List A → List A → List A
plus_list f [] q = q
plus_list f (x ∷ p) [] = x ∷ p
plus_list f (x ∷ p) (y ∷ q) = f x y ∷ plus_list f p q

abbrev pub scale : {A : Type 0} → (A → A → A) → A → List A → List A
scale g x [] = []
scale g x (y ∷ q) = g x y ∷ scale g x q

abbrev pub times_list : {A : Type 0} → A → (A → A → A) → (A → A → A) → List A → List A → List A
times_list o f g [] q = []
times_list o f g (x ∷ p) q = plus_list f (scale g x q) (o ∷ times_list o f g p q)

abbrev pub none : (k : ℕ) → P k
none zero = 0
none (suc k) = []

abbrev pub whole : (k : ℕ) → P k
whole zero = 1
whole (suc k) = whole k ∷ []

abbrev pub plus : (k : ℕ) → P k → P k → P k
plus zero a b = a + b
plus (suc k) p q = plus_list (plus k) p q

abbrev pub times : (k : ℕ) → P k → P k → P k
times zero a b = a * b
times (suc k) p q = times_list (none k) (plus k) (times k) p q

abbrev pub variable : (k i : ℕ) → P k
variable zero i = 0
variable (suc k) i = elim (eqb i k) [ true ↦ none k ∷ whole k ∷ [] | false ↦ variable k i ∷ [] ]

abbrev pub all_none : {A : Type 0} → (A → Bool) → List A → Bool
all_none z [] = true
all_none z (x ∷ p) = z x && all_none z p

abbrev pub is_none : (k : ℕ) → P k → Bool
is_none zero n = eqb n 0
is_none (suc k) p = all_none (is_none k) p

abbrev pub same_list : {A : Type 0} → (A → Bool) → (A → A → Bool) → List A → List A → Bool
same_list z s [] q = all_none z q
same_list z s (x ∷ p) [] = z x && all_none z p
same_list z s (x ∷ p) (y ∷ q) = s x y && same_list z s p q

abbrev pub same : (k : ℕ) → P k → P k → Bool
same zero a b = eqb a b
same (suc k) p q = same_list (is_none k) (same k) p q

-- ---- expressions

pub data Expr : Type 0 where
  var : ℕ → Expr
  unit : Expr
  _sum : Expr → Expr → Expr
  _prod : Expr → Expr → Expr

abbrev pub norm : (k : ℕ) → Expr → P k
norm k (var i) = variable k i
norm k unit = whole k
norm k (_sum a b) = plus k (norm k a) (norm k b)
norm k (_prod a b) = times k (norm k a) (norm k b)

abbrev pub within : ℕ → Expr → Bool
within k (var i) = ltb i k
within k unit = true
within k (_sum a b) = within k a && within k b
within k (_prod a b) = within k a && within k b
