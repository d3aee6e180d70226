-- Nothing is left at a function's exit of what a handle holds, or of what was made. Assumes nothing.
use lib.Dec.{T}
use denote.Exit.{yes, Last, left}
use denote.Param.Mute.{blank}
use Rattle.std.specs.Global.{Box}
use Rattle.std.specs.declared.option.Option.{Option}
use Rattle.std.specs.declared.option.Option.TheVariants.{None, Some}
use Rattle.mls_calls.specs.declared.held.Held.{Held as Kept}
use Rattle.mls_calls.specs.declared.held.Held.TheVariants.{Nothing, Bytes, Candidate, Member, Conversation}
use Rattle.mls_calls.specs.contracts.held.Held as held
use Rattle.mls_c.proofs.CallRows.{Made}

pub held_blank : (x : Kept) (f : Last (held.the_row.exit yes) x) → T (blank (left (held.the_row.exit yes) x f))
held_blank Nothing f = tt
held_blank (Bytes v) f = tt
held_blank (Candidate k) f = tt
held_blank (Member m) f = tt
held_blank (Conversation s) f = tt

pub made_blank : (x : Option (Box Kept)) (f : Last (Made.exit yes) x) → T (blank (left (Made.exit yes) x f))
made_blank None f = tt
made_blank (Some made) f = tt
