-- What a call that seals answers.
use Rattle.std.specs.Prelude.{◌≡◌, ℕ, List, Option, Result, IfOk}
use Rattle.std.specs.Option.{option_map}
use Rattle.hpke.specs.declared.base.Sealed.{Sealed}

-- enc and ct of a sealing, if there is one
abbrev pub sealing_of : Option Sealed → Option (List ℕ × List ℕ)
sealing_of o = option_map (λ s. (s.enc, s.ct.items)) o

-- where no allocation fails, the answer is this sealing, or None where there is none
abbrev pub Seals : {E : Type 0} → Result (Option Sealed) E → Option (List ℕ × List ℕ) → Type 0
Seals result sealing = IfOk result (λ o. sealing_of o ≡ sealing)
