-- The first number that fails a test, as loops look for it.
use Rattle.std.proofs.Common.{◌≡◌, ◌+◌, ℕ, Bool, true, arith, inl, inr, sym, subst}
use Rattle.std.proofs.lemmas.Bool.{cases_lt}
use Rattle.mls_cli_place.specs.TreePlace.{AllBelow}

pub none_below : (test : ℕ → Bool) → AllBelow test 0
none_below test = λ j lt. absurd (omega (arith, lt))

pub one_more : (test : ℕ → Bool) (n : ℕ) → AllBelow test n → test n ≡ true → AllBelow test (n + 1)
one_more test n h e = λ j lt.
    elim (cases_lt j n) [
      | inl low ↦ h j low
      | inr high ↦ let same : j ≡ n = omega (arith, lt, high) in subst (λ (k : ℕ). test k ≡ true) (sym same) e
    ]

pub ruleset firsts = (none_below, one_more)
