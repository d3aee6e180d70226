-- The names of refusals, looked at one by one.
use Rattle.std.proofs.Common.{◌≡◌, ◌∙◌, ◌<◌, ◌≤◌, ◌+◌, ◌-◌, ℕ, zero, suc, true, false, List, Some, None, refl, ap, arith}
use Rattle.std.specs.Str.{bytes_eq}
use Rattle.mls_cli_explain.specs.Explain.{name_told, end_of_numbers, number_of_name, number_from}

-- those before number k have other names
abbrev pub LeftFrom : List ℕ → ℕ → Type 0
LeftFrom name k = number_of_name name ≡ number_from (end_of_numbers - k) k name

none_left : (k : ℕ) (name : List ℕ) → number_from zero k name ≡ None
unfolding number_from
none_left k name = refl

hit : (n k : ℕ) (name : List ℕ) → bytes_eq name (name_told k) ≡ true → number_from (suc n) k name ≡ Some k
unfolding number_from
hit n k name e = rw e refl

miss : (n k : ℕ) (name : List ℕ) → bytes_eq name (name_told k) ≡ false → number_from (suc n) k name ≡ number_from n (k + 1) name
unfolding number_from
miss n k name e = rw e refl

pub here : (name : List ℕ) (k : ℕ) → k < end_of_numbers → bytes_eq name (name_told k) ≡ true → LeftFrom name k → number_of_name name ≡ Some k
here name k lt e so =
    let more : end_of_numbers - k ≡ suc (end_of_numbers - (k + 1)) = omega arith in
    so ∙ ap (λ (n : ℕ). number_from n k name) more ∙ hit (end_of_numbers - (k + 1)) k name e

pub further : (name : List ℕ) (k : ℕ) → k < end_of_numbers → bytes_eq name (name_told k) ≡ false → LeftFrom name k → LeftFrom name (k + 1)
further name k lt e so =
    let more : end_of_numbers - k ≡ suc (end_of_numbers - (k + 1)) = omega arith in
    so ∙ ap (λ (n : ℕ). number_from n k name) more ∙ miss (end_of_numbers - (k + 1)) k name e

pub nowhere : (name : List ℕ) (k : ℕ) → end_of_numbers ≤ k → LeftFrom name k → number_of_name name ≡ None
nowhere name k le so =
    let none : end_of_numbers - k ≡ zero = omega arith in
    so ∙ ap (λ (n : ℕ). number_from n k name) none ∙ none_left k name
