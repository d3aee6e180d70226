-- The columns of a scalar's digits add up to it.
use Rattle.std.specs.Prelude.{ℕ, ◌≡◌, zero, suc, ◌+◌, ◌-◌, ◌*◌, ◌/◌, ◌%◌, ◌^◌, ◌<◌, refl}
use Rattle.std.proofs.Common.{sym, ap, ap₂, ◌∙◌, add-one, lit<, arith}
use Rattle.std.proofs.Math.Nat.{pow-suc, div-div-eq-div-mul}
use Rattle.std.proofs.lemmas.Nat.{pow-add}
use lib.Arith.{mod-mul}
use native.Mathlib.Nat.{one-le-pow}
use Rattle.ed25519.specs.Digits.{digit, column}

positive : (k : ℕ) → 0 < 16 ^ k
positive k = one-le-pow k 16 (lit< tt)

-- the first j digits of the columns from r on, in the columns' order, divided by 16^r
abbrev pub level : ℕ → ℕ → ℕ → ℕ
level n r zero = 0
level n r (suc j) = level n r j + n / 16 ^ (8 * j + r) % 16 ^ (8 - r) * 16 ^ (8 * j)

pub column-zero : (n r : ℕ) → column n r 0 ≡ 0
unfolding column
column-zero n r = refl

pub column-suc : (n r j : ℕ) → column n r (j + 1) ≡ column n r j + digit n (8 * j + r) * 16 ^ (8 * j)
unfolding column
column-suc n r j = ap (column n r) (add-one j)

-- a column less
pub lower : (n r j : ℕ) → r < 8 → level n r j ≡ 4 * (4 * level n (r + 1) j) + column n r j
lower n r zero low = ap (λ t. 0 + t) (sym (column-zero n r))
lower n r (suc j) low =
    ap₂ (λ a b. a + b * w) (lower n r j low) split
    ∙ regroup (level n (r + 1) j) (column n r j) (n / 16 ^ (8 * j + (r + 1)) % 16 ^ (8 - (r + 1))) (digit n (8 * j + r)) w
    ∙ ap (λ t. 4 * (4 * level n (r + 1) (suc j)) + t) (sym (column-suc n r j) ∙ ap (column n r) (add-one j))
  where
    w : ℕ
    w = 16 ^ (8 * j)

    rest : (r : ℕ) → r < 8 → 8 - r ≡ suc (8 - (r + 1))
    rest r low = omega arith

    next : (j r : ℕ) → 8 * j + (r + 1) ≡ suc (8 * j + r)
    next j r = omega arith

    further : n / 16 ^ (8 * j + r) / 16 ≡ n / 16 ^ (8 * j + (r + 1))
    further = div-div-eq-div-mul n (16 ^ (8 * j + r)) 16 ∙ ap (λ t. n / t) (sym (pow-suc 16 (8 * j + r)) ∙ ap (λ t. 16 ^ t) (sym (next j r)))

    split : n / 16 ^ (8 * j + r) % 16 ^ (8 - r) ≡ n / 16 ^ (8 * j + (r + 1)) % 16 ^ (8 - (r + 1)) * 16 + digit n (8 * j + r)
    split =
        ap (λ t. n / 16 ^ (8 * j + r) % t) (ap (λ t. 16 ^ t) (rest r low) ∙ pow-suc 16 (8 - (r + 1)))
        ∙ mod-mul (n / 16 ^ (8 * j + r)) (positive (8 - (r + 1))) (omega arith)
        ∙ ap (λ t. t % 16 ^ (8 - (r + 1)) * 16 + digit n (8 * j + r)) further

    regroup : (l c x d u : ℕ) → 4 * (4 * l) + c + (x * 16 + d) * u ≡ 4 * (4 * (l + x * u)) + (c + d * u)
    regroup l c x d u = omega arith

-- above all columns
pub top : (n j : ℕ) → level n 8 j ≡ 0
top n zero = refl
top n (suc j) = ap₂ (λ a b. a + b * 16 ^ (8 * j)) (top n j) (none (n / 16 ^ (8 * j + 8))) ∙ nothing (16 ^ (8 * j))
  where
    none : (x : ℕ) → x % 1 ≡ 0
    none x = omega arith

    nothing : (w : ℕ) → 0 + 0 * w ≡ 0
    nothing w = omega arith

-- all columns of the first j digits
whole : (n j : ℕ) → level n 0 j ≡ n % 16 ^ (8 * j)
whole n zero = none n
  where
    none : (x : ℕ) → 0 ≡ x % 1
    none x = omega arith
whole n (suc j) =
    ap₂ (λ a b. a + n / b % 16 ^ 8 * 16 ^ (8 * j)) (whole n j) (ap (λ t. 16 ^ t) (same j))
    ∙ swap (n % 16 ^ (8 * j)) (n / 16 ^ (8 * j) % 16 ^ 8 * 16 ^ (8 * j))
    ∙ sym (mod-mul n (positive 8) (positive (8 * j)))
    ∙ ap (λ t. n % t) (sym (pow-add 16 8 (8 * j)) ∙ ap (λ t. 16 ^ t) (next j))
  where
    same : (j : ℕ) → 8 * j + 0 ≡ 8 * j
    same j = omega arith

    swap : (a b : ℕ) → a + b ≡ b + a
    swap a b = omega arith

    next : (j : ℕ) → 8 + 8 * j ≡ 8 * suc j
    next j = omega arith

pub bottom : (n : ℕ) → n < 2 ^ 256 → level n 0 8 ≡ n
bottom n low = whole n 8 ∙ small n low
  where
    small : (n : ℕ) → n < 2 ^ 256 → n % 16 ^ 64 ≡ n
    small n low = omega arith

-- ---- a digit, of four bits

pub digit_of_bits : (n i a b c d : ℕ) → a ≡ n / 2 ^ (4 * i) % 2 → b ≡ n / 2 ^ (4 * i + 1) % 2 → c ≡ n / 2 ^ (4 * i + 2) % 2 → d ≡ n / 2 ^ (4 * i + 3) % 2
    → a + 2 * b + 4 * c + 8 * d ≡ digit n i
digit_of_bits n i a b c d ea eb ec ed =
    four (n / 2 ^ (4 * i)) a b c d ea (eb ∙ ap (λ t. t % 2) (up 1)) (ec ∙ ap (λ t. t % 2) (up 2)) (ed ∙ ap (λ t. t % 2) (up 3)) ∙ ap (λ t. n / t % 16) (sixteen i)
  where
    up : (k : ℕ) → n / 2 ^ (4 * i + k) ≡ n / 2 ^ (4 * i) / 2 ^ k
    up k = ap (λ t. n / t) (pow-add 2 (4 * i) k) ∙ sym (div-div-eq-div-mul n (2 ^ (4 * i)) (2 ^ k))

    four : (x a b c d : ℕ) → a ≡ x % 2 → b ≡ x / 2 % 2 → c ≡ x / 4 % 2 → d ≡ x / 8 % 2 → a + 2 * b + 4 * c + 8 * d ≡ x % 16
    four x a b c d ea eb ec ed = omega arith

    sixteen : (i : ℕ) → 2 ^ (4 * i) ≡ 16 ^ i
    sixteen zero = refl
    sixteen (suc i) = ap (λ t. 2 ^ t) (next i) ∙ pow-add 2 (4 * i) 4 ∙ ap (λ t. t * 16) (sixteen i) ∙ sym (pow-suc 16 i)
      where
        next : (i : ℕ) → 4 * suc i ≡ 4 * i + 4
        next i = omega arith
