-- The inputs that are made of a view's slices, each equal to the input of the message that the view shows.
use Rattle.std.proofs.Common.{◌≡◌, ℕ, ◌+◌, List, [], ◌++◌, length, arith, Result, Ok, Err, refl, sym, ap, ◌∙◌, append_assoc}
use Rattle.std.specs.Int.{w16}
use Rattle.std.specs.Global.{Vec}
use Rattle.std.specs.Prelude.{MatchResult}
use Rattle.std.proofs.lemmas.List.{append-nil, length-append}
use Rattle.mls_wire.specs.Reading.{uint, header, opaque}
use Rattle.mls_types.specs.GroupContext.{group_context}
use Rattle.mls_types.specs.declared.group_context.GroupContext.{GroupContext}
use Rattle.mls_types.specs.Content.{framed_content}
use Rattle.mls_types.specs.SignedParts.{framed_content_of, auth_data}
use Rattle.mls_types.proofs.SignedParts.{signed_content_spelled}
use Rattle.mls_types.specs.PublicMessage.{wire_format, authenticated_content}
use Rattle.mls_types.specs.Signing.{framed_content_tbs, signed_pieces, authenticated_content_tbm}
use Rattle.mls_types.specs.declared.public_message.WireFormat.TheVariants.{PublicMessage}
use Rattle.mls_types.specs.declared.public_message.PublicMessage as messages
use Rattle.mls_view.specs.declared.public_message.PublicMessageView.{PublicMessageView}
use Rattle.mls_view.specs.Shown.{ShowsPublic}
use Rattle.mls_view.specs.SliceInputs.{tagged_pieces, authenticated_pieces, authenticated_content_of}

format_is : wire_format.spell PublicMessage ≡ uint w16 1
unfolding wire_format
format_is = append-nil (uint w16 1)

pub signed_is : (view : PublicMessageView) (shown : messages.PublicMessage) (context : List ℕ) (group : GroupContext) → ShowsPublic view shown → context ≡ group_context.spell group
    → signed_pieces view.framed_content.now context ≡ framed_content_tbs PublicMessage (framed_content_of shown.content) group
signed_is view shown context group shows is = rw (shows.framed_content, is, format_is) refl

pub tagged_is : (view : PublicMessageView) (shown : messages.PublicMessage) (context : List ℕ) (group : GroupContext) → ShowsPublic view shown → context ≡ group_context.spell group
    → tagged_pieces view.framed_content.now context view.auth_data.now ≡ authenticated_content_tbm PublicMessage shown.content group
tagged_is view shown context group shows is = rw (shows.framed_content, shows.auth_data, is, format_is) refl

pub authenticated_is : (view : PublicMessageView) (shown : messages.PublicMessage) → ShowsPublic view shown → authenticated_pieces view.framed_content.now view.auth_data.now ≡ authenticated_content.spell (authenticated_content_of shown)
unfolding authenticated_content
authenticated_is view shown shows =
    rw (shows.framed_content, shows.auth_data, format_is) (append_assoc (uint w16 1) (framed_content.spell (framed_content_of shown.content)) (auth_data shown.content) ∙ ap (λ (l : List ℕ). uint w16 1 ++ l) (sym (signed_content_spelled shown.content)))

pub signed_made : {E : Type 0} (view : PublicMessageView) (context : List ℕ) (r : Result (Vec ℕ) E) → MatchResult r (λ v. v.items ≡ signed_pieces view.framed_content.now context) (λ e. Unit {0})
    → MatchResult r (λ v. (shown : messages.PublicMessage) (group : GroupContext) → ShowsPublic view shown → context ≡ group_context.spell group → v.items ≡ framed_content_tbs PublicMessage (framed_content_of shown.content) group) (λ e. Unit {0})
signed_made view context (Ok v) h = λ shown group shows is. h ∙ signed_is view shown context group shows is
signed_made view context (Err e) h = tt

-- the pieces of a reference, one after the other
pub referenced : (label_header label_bytes value_header format said auth label : List ℕ) → label_header ≡ header (length label) → label_bytes ≡ label → value_header ≡ header (length said + length auth + 2) → format ≡ uint w16 1
    → length (uint w16 1) ≡ 2 → label_header ++ (label_bytes ++ (value_header ++ (format ++ (said ++ (auth ++ []))))) ≡ opaque label ++ opaque (authenticated_pieces said auth)
referenced label_header label_bytes value_header format said auth label a b c d two =
    let len : length (authenticated_pieces said auth) ≡ length said + length auth + 2 = omega (arith, length-append (uint w16 1 ++ said) auth, length-append (uint w16 1) said) in
    rw (a, b, c, d, len) (simp (append_assoc, append-nil))
