-- A test of every number below another, by computation.
use Rattle.std.proofs.Common.{◌≡◌, ℕ, zero, suc, ◌<◌, Bool, true, ◌&&◌, arith, inl, inr, subst}
use Rattle.std.proofs.lemmas.Bool.{and_parts, cases_lt}

unfoldable pub all_below : (ℕ → Bool) → ℕ → Bool
all_below p zero = true
all_below p (suc n) = all_below p n && p n

pub all_below-at : (p : ℕ → Bool) (n i : ℕ) → all_below p n ≡ true → i < n → p i ≡ true
unfolding all_below
all_below-at p zero i h lt = absurd (omega arith)
all_below-at p (suc n) i h lt =
    let parts = and_parts (all_below p n) (p n) h in
    elim (cases_lt i n) [
      | inl below ↦ all_below-at p n i parts.0 below
      | inr above ↦ let same : n ≡ i = omega arith in subst (λ k. p k ≡ true) same parts.1
    ]
