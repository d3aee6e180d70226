-- The header of a short length, and that of a length that has none: its bytes wrap.
use Rattle.std.proofs.Common.{◌≡◌, ℕ, ◌+◌, ◌%◌, ◌^◌, ◌<◌, ◌≤◌, [], ◌∷◌, refl, arith}
use Rattle.std.specs.Int.{w32, to_be_bytes}
use Rattle.std.proofs.lemmas.Bool.{le-ltb, lt-ltb}
use Rattle.mls_wire.specs.Reading.{header}
use Rattle.mls_wire.proofs.LawsLemmas.{low_bytes}

pub short_header : (n : ℕ) → n < 64 → n ∷ [] ≡ header n
unfolding header
short_header n h = rw (lt-ltb n 64 h) refl

pub wrapped_header : (n : ℕ) → 2 ^ 30 ≤ n → to_be_bytes w32 ((n % 2 ^ 32 + 2 ^ 31) % 2 ^ 32) ≡ header n
unfolding header
wrapped_header n h =
    rw (le-ltb n 64 (omega arith), le-ltb n 16384 (omega arith)) (low_bytes ((n % 2 ^ 32 + 2 ^ 31) % 2 ^ 32) (2147483648 + n) (omega arith))
