-- The laws of numbers and byte strings.
use Rattle.std.proofs.Common.{◌≡◌, ℕ, ◌/◌, ◌%◌, ◌^◌, ◌<◌, [], ◌∷◌, ap, ◌∙◌, arith}
use Rattle.std.specs.Int.{w32, to_be_bytes}
use Rattle.mls_wire.specs.Reading.{header, length_at}
use Rattle.mls_wire.specs.Format.{IsLawful}
use Rattle.mls_wire.specs.Laws.{length_takes, length_again}

-- four bytes are the number's lowest ones
pub low_bytes : (a b : ℕ) → a % 2 ^ 32 ≡ b % 2 ^ 32 → to_be_bytes w32 a ≡ to_be_bytes w32 b
low_bytes a b e =
    let first : a / 2 ^ 24 % 256 ≡ b / 2 ^ 24 % 256 = omega arith in
    let second : a / 2 ^ 16 % 256 ≡ b / 2 ^ 16 % 256 = omega arith in
    let third : a / 2 ^ 8 % 256 ≡ b / 2 ^ 8 % 256 = omega arith in
    let fourth : a % 256 ≡ b % 256 = omega arith in
    ap (λ (x : ℕ). x ∷ a / 2 ^ 16 % 256 ∷ a / 2 ^ 8 % 256 ∷ a % 256 ∷ []) first
    ∙ ap (λ (x : ℕ). b / 2 ^ 24 % 256 ∷ x ∷ a / 2 ^ 8 % 256 ∷ a % 256 ∷ []) second
    ∙ ap (λ (x : ℕ). b / 2 ^ 24 % 256 ∷ b / 2 ^ 16 % 256 ∷ x ∷ a % 256 ∷ []) third
    ∙ ap (λ (x : ℕ). b / 2 ^ 24 % 256 ∷ b / 2 ^ 16 % 256 ∷ b / 2 ^ 8 % 256 ∷ x ∷ []) fourth

pub length_lawful : IsLawful header (λ n. n < 2 ^ 30) length_at
length_lawful = record { takes = length_takes; again = length_again }
