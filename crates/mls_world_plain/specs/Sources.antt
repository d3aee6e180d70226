-- What bytes stand for where a world's event names them.
use Rattle.std.specs.Prelude.{◌≡◌, ℕ, List, map, Result, Ok}
use Rattle.std.specs.Global.{Vec}
use Rattle.mls_wire.specs.Checks.{require, require_some, ◌>>◌, Answers, AnswersOutright}
use Rattle.mls_wire.specs.Reading.{◌>>=◌}
use Rattle.mls_leaf.specs.GroupExtensions.{are_allowed}
use Rattle.mls_leaf.specs.declared.extension.Extension.{Extension}
use Rattle.mls_leaf.specs.declared.key_package.KeyPackage.{KeyPackage}
use Rattle.mls_types.specs.declared.public_message.PublicMessage.{PublicMessage}
use Rattle.mls_types.specs.declared.signed.SignedContent.{SignedContent}
use Rattle.mls_view.specs.declared.public_message.PublicMessageView.{PublicMessageView}
use Rattle.mls_view.specs.Shown.{ShowsPublic}
use Rattle.mls_model.specs.declared.event.Source.{Source}
use Rattle.mls_model.specs.declared.event.WorldItem.{WorldItem}
use Rattle.mls_model.specs.declared.item.Item.{Item}
use Rattle.mls_model.specs.Make.{list_item_of}
use Rattle.mls_model.specs.Messages.{decode_message, reference_of}
use Rattle.mls_model.specs.World.{World, bytes_of, items_of, package_in, proposal_in, if_proposal}
use Rattle.mls_world_plain.specs.declared.error.WorldError.{WorldError}
use Rattle.mls_world_plain.specs.Faults.{number_of}

-- ---- what bytes are

-- the KeyPackage that bytes are: decoding, `WrongMessageKind` (95) (RFC 9420, 6)
unfoldable pub read_package : List ℕ → Result KeyPackage ℕ
read_package bytes = decode_message bytes >>= λ m. require_some 95 (package_in m)

-- the reference of the proposal that a signed content is: `WrongMessageKind` (95) (RFC 9420, 5.2)
unfoldable pub reference_in : SignedContent → Result (List ℕ) ℕ
reference_in v = require_some 95 (if_proposal v v.body) >>= λ x. Ok (reference_of x)

-- the reference of the proposal whose message bytes are: decoding, `WrongMessageKind` (95) (RFC 9420, 5.2)
unfoldable pub read_reference : List ℕ → Result (List ℕ) ℕ
read_reference bytes = decode_message bytes >>= λ m. require_some 95 (proposal_in m) >>= λ v. Ok (reference_of v)

-- extensions that a group may carry: `ExtensionNotAllowed` (14) (RFC 9420, 8.1)
unfoldable pub allowed_list : List Extension → Result (List Extension) ℕ
allowed_list list = require 14 (are_allowed list) >> Ok list

-- ---- what calls answer

-- the bytes of a source are answered, in any world that has these messages
abbrev pub AnswersBytesOf : {B : Type 0} → (B → List ℕ) → List (List ℕ) → Source → Result B WorldError → Type 0
AnswersBytesOf value messages source result = (w : World) → w.messages ≡ messages → AnswersOutright value number_of (bytes_of w source) result

-- the reference of the proposal that a message's view shows is answered
abbrev pub AnswersReference : PublicMessageView → Result (List ℕ) WorldError → Type 0
AnswersReference view result = (shown : PublicMessage) → ShowsPublic view shown → AnswersOutright (λ (r : List ℕ). r) number_of (reference_in shown.content) result

-- the items that a commit lists are answered
abbrev pub AnswersItems : World → List WorldItem → Result (Vec Item) WorldError → Type 0
AnswersItems w items result = Answers (λ (v : Vec Item). map list_item_of v.items) number_of (items_of w items) result
