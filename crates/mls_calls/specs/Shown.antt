-- What a handle holds, as the definitions of the calls see it.
use Rattle.std.specs.Prelude.{ℕ, List, Option, None, Some}
use Rattle.std.specs.Global.{Box}
use Rattle.mls_model.specs.Candidate.{Candidate}
use Rattle.mls_model.specs.Member.{Member}
use Rattle.mls_exchange.specs.State.{State}
use Rattle.mls_calls.specs.declared.held.Held.{Held}
use Rattle.mls_calls.specs.declared.held.Held.TheVariants as held
use Rattle.mls_calls.specs.declared.done.Fruit.{Fruit}

pub data Shown : Type 0 where
  nothing : Shown
  bytes : List ℕ → Shown
  candidate : Candidate → Shown
  member : Member → Shown
  conversation : State → Shown

abbrev pub shown : Held → Shown
shown held.Nothing = nothing
shown (held.Bytes xs) = bytes xs
shown (held.Candidate k) = candidate k
shown (held.Member m) = member m
shown (held.Conversation s) = conversation s

-- what a box that was made holds
abbrev pub boxed : Option (Box Held) → Option Held
boxed None = None
boxed (Some made) = Some made.value

abbrev pub shown_boxed : Option (Box Held) → Option Shown
shown_boxed None = None
shown_boxed (Some made) = Some (shown made.value)

-- what a call makes: what two handles hold, and a number
abbrev pub Fruits : Type 0
Fruits = Option Shown × Option Shown × ℕ

abbrev pub fruits : Fruit → Fruits
fruits f = (shown_boxed f.made, shown_boxed f.other, f.value)
