-- Where a whole input has its first fault.
use Rattle.std.specs.Prelude.{◌≡◌, ℕ, ◌-◌, ◌==◌, nat_lt, if◌then◌else◌, List, length, Option, Some, None, Result, Ok, Err, option_map}
use Rattle.mls_leaf.specs.Limits.{input_limit}
use Rattle.mls_cli_place.specs.declared.place.Found.{Found}
use Rattle.mls_cli_place.specs.declared.place.Place.{Place}
use Rattle.mls_cli_place.specs.declared.step.GroupField.TheVariants as group
use Rattle.mls_cli_place.specs.declared.step.MessageField.TheVariants as message
use Rattle.mls_cli_place.specs.declared.step.Step.{Step}
use Rattle.mls_cli_place.specs.declared.step.Step.TheVariants.{Group, Message}
use Rattle.mls_cli_place.specs.Message.{mls_message_walk}
use Rattle.mls_cli_place.specs.Tree.{ratchet_tree_walk}
use Rattle.mls_cli_place.specs.Walk.{Walk, at_front, enclosed_by}

-- a fault in so many bytes, by how many stand before its field
abbrev pub place_of : ℕ → Found → Place
place_of size f = record { offset = size - f.left; path = f.path; fault = f.fault }

-- a fault in no field is one of the whole
abbrev pub of_whole : Step → Found → Found
of_whole whole f = if length f.path == 0 then enclosed_by whole f else f

-- bytes that are left behind the whole are `Trailing` (3), where they begin
abbrev pub whole_end : Result (List ℕ) Found → Option Found
whole_end (Ok rest) = if length rest == 0 then None else Some (at_front rest 3)
whole_end (Err f) = Some f

-- the first fault of an input, of which there is one exactly when it is refused: `TooLong` (6) is one of the whole
abbrev pub first_fault : Walk → List ℕ → Option Found
first_fault walk bytes =
    if nat_lt input_limit (length bytes) then Some (at_front bytes 6) else whole_end (walk bytes)

-- of an MLSMessage (RFC 9420, 6)
unfoldable pub place_in_message : List ℕ → Option Place
place_in_message bytes =
    option_map (λ f. place_of (length bytes) (of_whole (Message message.MlsMessage) f))
    (first_fault mls_message_walk bytes)

-- of a ratchet tree as it is sent (RFC 9420, 12.4.3.3): each fault is inside the tree
unfoldable pub place_in_tree : List ℕ → Option Place
place_in_tree bytes =
    option_map (λ f. place_of (length bytes) (enclosed_by (Group group.RatchetTree) f))
    (first_fault ratchet_tree_walk bytes)

-- ---- what it has to do with decoding

-- the number that an input is refused with
abbrev pub refusal_of : {A : Type 0} → Result A ℕ → Option ℕ
refusal_of (Ok x) = None
refusal_of (Err n) = Some n

-- A fault is found exactly when reading refuses, and it is the one that reading answers.
abbrev pub IsFaultOf : {A : Type 0} → Result A ℕ → Option Found → Type 0
IsFaultOf read found = option_map (λ (f : Found). f.fault) found ≡ refusal_of read

-- A place is answered exactly when reading refuses, and has the fault that reading answers.
abbrev pub IsOfRefusal : {A : Type 0} → Result A ℕ → Option Place → Type 0
IsOfRefusal read place = option_map (λ (p : Place). p.fault) place ≡ refusal_of read
