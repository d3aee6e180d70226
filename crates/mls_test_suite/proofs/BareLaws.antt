-- The suite to copy is lawful.
use Rattle.std.specs.Prelude.{◌≡◌, ℕ, List, length, replicate}
use Rattle.std.proofs.lemmas.List.{take_at}
use Rattle.mls_test_suite.specs.Bare.{key_from}

-- a key of 32 bytes stays as it is
pub fitted_key : (xs : List ℕ) → length xs ≡ 32 → key_from xs ≡ xs
fitted_key xs e = take_at xs (replicate 32 0) 32 e
