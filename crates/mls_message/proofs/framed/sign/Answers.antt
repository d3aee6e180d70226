use Rattle.std.proofs.Common.{◌≡◌, ℕ, List, Result, Ok, Err, IfOk, refl, ap, ◌∙◌}
use Rattle.std.specs.Prelude.{codes}
use Rattle.std.specs.Global.{Vec}
use Rattle.mls_types.specs.GroupContext.{group_context}
use Rattle.mls_types.specs.Content.{framed_content}
use Rattle.mls_types.specs.Signing.{signed_pieces}
use Rattle.mls_types.specs.declared.content.FramedContent.{FramedContent}
use Rattle.mls_suite.specs.Crypto.{Crypto}
use Rattle.mls_suite.specs.Labels.{sign_with_label}
use Rattle.mls_model.specs.Member.{Member}
use Rattle.mls_model.specs.Messages.{content_signature}
use Rattle.mls_message.specs.Speaks.{Speaks}
use Rattle.mls_message.specs.declared.speaker.Speaker.{Speaker}
use Rattle.mls_message.proofs.TextLaws.{signed_is}
use Rattle.mls_message.proofs.WithinLaws.{signed_short}
use Rattle.mls_message.proofs.framed.sign.Goals as goal

-- a signature of the text is the member's
signed_as : {E : Type 0} (c : Crypto) (s : Speaker) (said : FramedContent) (text : List ℕ) (r : Result (Vec ℕ) E) → text ≡ signed_pieces (framed_content.spell said) (group_context.spell s.group.now.context)
    → IfOk r (λ v. v.items ≡ sign_with_label c s.signing.now (codes "FramedContentTBS") text)
    → IfOk r (λ v. (m : Member) → Speaks m s → v.items ≡ content_signature c m.signing said m.public.context)
unfolding content_signature
signed_as c s said text (Ok v) is h = λ m speaks. rw (speaks.signing, speaks.public) (h ∙ ap (sign_with_label c s.signing.now (codes "FramedContentTBS")) (is ∙ signed_is said s.group.now.context))
signed_as c s said text (Err e) is h = tt

pub sign_with_label-requires-clause-content : goal.sign_with_label-requires-clause-content
sign_with_label-requires-clause-content g c =
    rw (c.deref.ensures.value, c.in_ok-text.ensures, c.context_bytes.ensures) (signed_short c.bytes.result.now c.args.speaker.now.group.now.context c.bytes.ensures.short c.is_short.ensures.context)

pub returns-clause-signature : goal.returns-clause-signature
returns-clause-signature g c =
    signed_as g.S.Suite.crypto c.args.speaker.now c.args.framed.now c.deref.result.now c.sign_with_label.result
    (rw (c.deref.ensures.value, c.in_ok-text.ensures, c.bytes.ensures.bytes, c.context_bytes.ensures) refl) c.sign_with_label.ensures
