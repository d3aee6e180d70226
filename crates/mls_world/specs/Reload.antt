-- Saving and loading the members of a world.
use Rattle.std.specs.Prelude.{◌≡◌, ◌≢◌, ℕ, if◌then◌else◌, Option, Some, None, Result, Ok, Err}
use Rattle.std.specs.Global.{Vec}
use Rattle.mls_saved_state.specs.Faults.{number_of}
use Rattle.mls_saved_state.specs.declared.error.LoadError.{LoadError}
use Rattle.mls_model.specs.Member.{Member}
use Rattle.mls_model.specs.World.{World}
use Rattle.mls_member.specs.Saved.{saved_of, FitsInput, Saves}
use Rattle.mls_world_plain.specs.CallAnswers.{seated_member}

-- a member, where there is one and it wasn't removed
abbrev pub present : Option Member → Option Member
present (Some m) = if m.gone then None else Some m
present None = None

-- the member in seat k, where there is one and it wasn't removed
abbrev pub active_member : World → ℕ → Option Member
active_member w k = present (seated_member w k)

-- a member has more bytes, as it is saved, than an input has
abbrev pub IsTooLong : Member → Type 0
IsTooLong m = FitsInput (saved_of m) → ⊥

-- What a call returned is what the member is saved as, or nothing where there is none. The error is want of memory, or
-- `TooLong` (6) of a member that has more bytes than an input has.
abbrev pub Reloads : Option Member → Result (Option (Vec ℕ)) LoadError → Type 0
Reloads None result = result ≡ Ok None
Reloads (Some m) (Ok None) = ⊥
Reloads (Some m) (Ok (Some bytes)) = Saves (saved_of m) (Ok bytes)
Reloads (Some m) (Err e) = number_of e ≢ 1 → (number_of e ≡ 6) × IsTooLong m
