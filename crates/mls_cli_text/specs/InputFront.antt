-- What is read of an input that is read up to a limit.
use Rattle.std.specs.Prelude.{◌≡◌, ℕ, List, take, Option, IfSome}

-- these are the bytes that are left, up to so many, where those are known
abbrev pub AreFront : ℕ → Option (List ℕ) → List ℕ → Type 0
AreFront most remaining bs = IfSome remaining (λ (all : List ℕ). bs ≡ take most all)
