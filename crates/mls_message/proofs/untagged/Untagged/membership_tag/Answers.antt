use Rattle.std.proofs.Common.{◌≡◌, length, refl, subst, ap, ◌∙◌, arith}
use Rattle.mls_types.proofs.SignedParts.{signed_content_parts_fit}
use Rattle.mls_types.specs.declared.signed.SignedContent.{SignedContent}
use Rattle.mls_model.specs.Messages.{content_tag}
use Rattle.mls_message.proofs.TextLaws.{auth_within, tag_is}
use Rattle.mls_message.proofs.untagged.Untagged.membership_tag.Goals as goal

pub auth_data_length-requires : goal.auth_data_length-requires
auth_data_length-requires c = (signed_content_parts_fit c.self.inside.content.now c.self.invariant.fits).1

pub overflow_sub-text : goal.overflow_sub-text
overflow_sub-text c =
    let e = ap length (c.as_slice-text.ensures.value ∙ c.self.invariant.spelled) in
    omega (arith, e, c.auth_data_length.ensures, auth_within c.self.inside.content.now)

pub returns : goal.returns
returns c = λ m speaks.
    subst (λ (v : SignedContent). c.tag_of.result ≡ content_tag m.epoch_secret v m.public.context) c.self.view_is
    (c.tag_of.ensures
    ∙ tag_is m c.args.speaker.now c.self.inside.content.now c.as_slice-text.result.now _ c.context_bytes.result.now _ (length c.as_slice-text.result.now) c.auth_data_length.result speaks
    (c.as_slice-text.ensures.value ∙ c.self.invariant.spelled) refl c.auth_data_length.ensures c.split_at.ensures.front c.context_bytes.ensures c.split_at.ensures.back)
