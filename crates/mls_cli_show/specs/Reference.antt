-- The references by which other messages name a message.
use Rattle.std.specs.Prelude.{◌≡◌, ℕ, List, [], ◌∷◌, codes, Option, Some, None, Ok}
use Rattle.std.specs.Global.{Vec}
use Rattle.mls_wire.specs.Whole.{whole}
use Rattle.mls_leaf.specs.KeyPackage.{key_package}
use Rattle.mls_leaf.specs.Limits.{input_limit}
use Rattle.mls_leaf.specs.Reference.{key_package_reference}
use Rattle.mls_types.specs.Message.{mls_message}
use Rattle.mls_types.specs.PublicMessage.{authenticated_content}
use Rattle.mls_types.specs.Reference.{proposal_reference}
use Rattle.mls_types.specs.declared.message.MlsMessage.{MlsMessage}
use Rattle.mls_types.specs.declared.message.MlsMessage.TheVariants as message
use Rattle.mls_types.specs.declared.public_message.PublicMessage.{PublicMessage}
use Rattle.mls_types.specs.declared.signed.SignedBody.TheVariants as body
use Rattle.mls_types.specs.declared.signed.SignedBody.{SignedBody}
use Rattle.mls_view.specs.declared.public_message.PublicMessageView.{PublicMessageView}
use Rattle.mls_view.specs.Shown.{ShowsPublic}
use Rattle.mls_view.specs.SliceInputs.{authenticated_content_of}
use Rattle.mls_cli_text.specs.Text.{Entry, entries_of, entry, bytes}
use Rattle.mls_cli_text.specs.declared.text.Line.{Line}
use Rattle.mls_cli_show.specs.declared.numbered.Detail.{Detail}
use Rattle.mls_cli_show.specs.Numbered.{in_full}

-- what a body that is a proposal has, and no other body
abbrev pub of_proposal : SignedBody → List ℕ → Option (List ℕ)
of_proposal (body.Application text) reference = None
of_proposal (body.Proposal v) reference = Some reference
of_proposal (body.Commit c confirmation_tag) reference = None

-- RFC 9420, section 5.2: the reference by which a Welcome names a KeyPackage and a commit a proposal; no other message
-- has one
abbrev pub reference_of : MlsMessage → Option (List ℕ)
reference_of (message.PublicMessage v) =
    of_proposal v.content.body
    (proposal_reference (authenticated_content.spell (authenticated_content_of v)))
reference_of (message.Welcome v) = None
reference_of (message.GroupInfo v) = None
reference_of (message.KeyPackage v) = Some (key_package_reference (key_package.spell v))

-- the line of a reference, if there is one
abbrev pub reference_entries : Option (List ℕ) → List Entry
reference_entries None = []
reference_entries (Some reference) = entry [] (codes "reference") (bytes reference) ∷ []

-- ---- what calls find in the bytes of a message

-- the reference of the proposal that a public message has, of whatever message the view shows
abbrev pub IsProposalIn : PublicMessageView → Option (List ℕ) → Type 0
IsProposalIn view found =
    (v : PublicMessage) → ShowsPublic view v → found ≡ reference_of (message.PublicMessage v)

-- the reference of whatever message the bytes spell
abbrev pub IsReferenceIn : List ℕ → Option (List ℕ) → Type 0
IsReferenceIn text found =
    (m : MlsMessage) → whole mls_message input_limit text ≡ Ok m → found ≡ reference_of m

-- the lines that the full text has of the reference of whatever message the bytes spell
abbrev pub IsReferenceLine : Detail → List ℕ → Vec Line → Type 0
IsReferenceLine detail text lines = (m : MlsMessage) → whole mls_message input_limit text ≡ Ok m
    → entries_of lines ≡ in_full detail (reference_entries (reference_of m))
