-- A definition that refuses has one number, and one that gives a value refuses nothing.
use Rattle.std.proofs.Common.{◌≡◌, ℕ, Result, Ok, Err, sym, ◌∙◌}

module _ {A : Type 0} (defined : Result A ℕ) where
  pub one_number : (k : ℕ) → defined ≡ Err k → (n : ℕ) → defined ≡ Err n → k ≡ n
  one_number k is n h = (let same = sym is ∙ h in cc)

  pub not_refused : (v : A) → defined ≡ Ok v → (n : ℕ) → defined ≡ Err n → ⊥
  not_refused v is n h = absurd (let same = sym is ∙ h in cc)
