-- What a call that opens answers.
use Rattle.std.specs.Prelude.{◌≡◌, ℕ, List, Option, Result, IfOk}
use Rattle.std.specs.Option.{option_map}
use Rattle.std.specs.Global.{Vec}

-- where no allocation fails, the answer is the text, or None where there is none
abbrev pub Opens : {E : Type 0} → Result (Option (Vec ℕ)) E → Option (List ℕ) → Type 0
Opens result text = IfOk result (λ o. option_map (λ v. v.items) o ≡ text)
