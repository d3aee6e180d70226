-- The checks of calls on a world that come before anything grows: the number of the first that fails is the call's,
-- also when an allocation fails.
use Rattle.std.specs.Prelude.{ℕ, List, [], ◌∷◌, Result, Ok}
use Rattle.mls_wire.specs.Checks.{Passed, passed, require}
use Rattle.mls_wire.specs.Reading.{◌>>=◌}
use Rattle.mls_leaf.specs.GroupExtensions.{are_allowed}
use Rattle.mls_leaf.specs.declared.extension.Extension.{Extension}
use Rattle.mls_tree.specs.Refusals.{RefusesOutright}
use Rattle.mls_join.specs.Entrance.{welcome_outer_checks}
use Rattle.mls_member.specs.EarlyChecks.{early_checks as early_member_checks}
use Rattle.mls_model.specs.declared.event.Event.{Event}
use Rattle.mls_model.specs.declared.event.Event.TheVariants as event
use Rattle.mls_model.specs.declared.event.Source.{Source}
use Rattle.mls_model.specs.declared.event.WorldItem.{WorldItem}
use Rattle.mls_model.specs.World.{World, seat_at, entrant_at, bytes_of, package_of, item_of}
use Rattle.mls_world_plain.specs.declared.error.WorldError.{WorldError}
use Rattle.mls_world_plain.specs.Faults.{number_of}

-- Where these checks fail, the call is refused with the number of the first, also when an allocation fails.
abbrev pub RefusesEarly : {A B : Type 0} → Result A ℕ → Result B WorldError → Type 0
RefusesEarly checks result = RefusesOutright number_of checks result

-- a check by a definition's number, without its value
abbrev pub check_of : {A : Type 0} → Result A ℕ → Result Passed ℕ
check_of r = r >>= λ x. Ok passed

-- the checks of an add: `NoSuchMember` (90), then `NoSuchMessage` (94), decoding and `WrongMessageKind` (95) of the
-- source
unfoldable pub early_add_checks : World → ℕ → Source → Result Passed ℕ
early_add_checks w k source = seat_at w k >>= λ s. check_of (package_of w source)

-- the checks of extensions that are proposed: `NoSuchMember` (90), then `ExtensionNotAllowed` (14)
unfoldable pub early_extensions_checks : World → ℕ → List Extension → Result Passed ℕ
early_extensions_checks w k list = seat_at w k >>= λ s. require 14 (are_allowed list)

-- Where these checks of extensions fail, the call is refused with the number of the first, also when an allocation
-- fails.
abbrev pub RefusesExtensionsEarly : {B : Type 0} → World → ℕ → List Extension → Result B WorldError → Type 0
RefusesExtensionsEarly w k list result = RefusesEarly (early_extensions_checks w k list) result

-- the checks of a list: `NoSuchMessage` (94), decoding and `WrongMessageKind` (95) of its first item, or
-- `ExtensionNotAllowed` (14)
abbrev pub first_checks : World → List WorldItem → Result Passed ℕ
first_checks w [] = Ok passed
first_checks w (x ∷ xs) = check_of (item_of w x)

-- the checks of a commit: `NoSuchMember` (90), then those of its list
unfoldable pub early_commit_checks : World → ℕ → List WorldItem → Result Passed ℕ
early_commit_checks w k items = seat_at w k >>= λ s. first_checks w items

-- the checks of a delivery: `NoSuchMember` (90), `NoSuchMessage` (94), then the member's: `Gone` (40), and of bytes that
-- aren't its pending commit decoding and `NotPublicMessage` (41) to `BadMembershipTag` (46)
unfoldable pub early_delivery_checks : World → ℕ → Source → Result Passed ℕ
early_delivery_checks w k source =
    seat_at w k >>= λ s. bytes_of w source >>= λ bytes. early_member_checks s.member bytes

-- the checks of a join, for a suite's number: `NoSuchCandidate` (92), `CandidateSpent` (91), `NoSuchMessage` (94), then
-- decoding, `NotWelcome` (70) and `WrongSuite` (71) of the Welcome
unfoldable pub early_join_checks : ℕ → World → ℕ → Source → Result Passed ℕ
early_join_checks number w n source =
    entrant_at w n >>= λ e. bytes_of w source >>= λ bytes. welcome_outer_checks number bytes

-- the checks of an event, for a suite's number; a candidate has none
unfoldable pub early_checks : ℕ → World → Event → Result Passed ℕ
early_checks number w (event.Candidate identity seed) = Ok passed
early_checks number w (event.Create n group seed) = check_of (entrant_at w n)
early_checks number w (event.ProposeAdd k source) = early_add_checks w k source
early_checks number w (event.ProposeUpdate k seed) = check_of (seat_at w k)
early_checks number w (event.ProposeRemove k leaf) = check_of (seat_at w k)
early_checks number w (event.ProposeExtensions k list) = early_extensions_checks w k list.items
early_checks number w (event.Commit k items path seed) = early_commit_checks w k items.items
early_checks number w (event.DropPending k) = check_of (seat_at w k)
early_checks number w (event.Deliver k source) = early_delivery_checks w k source
early_checks number w (event.Join n source) = early_join_checks number w n source
