-- What the sender of a shown message signed is short.
use Rattle.std.proofs.Common.{◌≡◌, ℕ, ◌<◌, ◌≤◌, ◌^◌, List, length, sym, subst, ◌∙◌}
use Rattle.mls_leaf.specs.Limits.{input_limit}
use Rattle.mls_types.specs.GroupContext.{group_context}
use Rattle.mls_types.specs.declared.group_context.GroupContext.{GroupContext}
use Rattle.mls_types.specs.Content.{framed_content}
use Rattle.mls_types.specs.SignedParts.{framed_content_of}
use Rattle.mls_types.specs.Signing.{framed_content_tbs}
use Rattle.mls_types.specs.declared.public_message.PublicMessage.{PublicMessage}
use Rattle.mls_types.specs.declared.public_message.WireFormat.TheVariants as format
use Rattle.mls_view.specs.Shown.{ShowsPublic}
use Rattle.mls_view.specs.declared.public_message.PublicMessageView.{PublicMessageView}
use Rattle.mls_public_group.specs.Short.{IsShortContext}
use Rattle.mls_message.proofs.TextLaws.{signed_is}
use Rattle.mls_message.proofs.WithinLaws.{signed_short}
use Rattle.mls_member.specs.Process.{IsShown, IsShortView}

-- these are the bytes that the sender signed of the message that a view shows
abbrev pub IsInputOf : PublicMessageView → List ℕ → List ℕ → Type 0
IsInputOf view context input = (shown : PublicMessage) (group : GroupContext) → ShowsPublic view shown → context ≡ group_context.spell group → input ≡ framed_content_tbs format.PublicMessage (framed_content_of shown.content) group

input_of : (view : PublicMessageView) (group : GroupContext) (context input : List ℕ) → IsShown view → length view.framed_content.now ≤ input_limit → IsShortContext group → context ≡ group_context.spell group → IsInputOf view context input → length input < 2 ^ 30
unfolding IsShown
input_of view group context input (shown, shows) h small is made =
    let said : length (framed_content.spell (framed_content_of shown.content)) ≤ input_limit = subst (λ (l : List ℕ). length l ≤ input_limit) shows.framed_content h in
    subst (λ (l : List ℕ). length l < 2 ^ 30) (signed_is (framed_content_of shown.content) group ∙ sym (made shown group shows is)) (signed_short (framed_content.spell (framed_content_of shown.content)) group said small)

-- they are fewer than 2^30 where the context is short
pub input_short : (view : PublicMessageView) (group : GroupContext) (context input : List ℕ) → IsShortView view → IsShortContext group → context ≡ group_context.spell group → IsInputOf view context input → length input < 2 ^ 30
input_short view group context input short small is made = input_of view group context input short.shown short.said small is made
