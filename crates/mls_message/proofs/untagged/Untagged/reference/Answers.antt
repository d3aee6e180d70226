use Rattle.std.proofs.Common.{◌≡◌, drop, subst, ap, ◌∙◌}
use Rattle.mls_types.specs.Reference.{proposal_reference}
use Rattle.mls_types.specs.declared.signed.SignedContent.{SignedContent}
use Rattle.mls_model.specs.Messages.{reference_of}
use Rattle.mls_message.proofs.TextLaws.{reference_is, version_within}
use Rattle.mls_message.proofs.untagged.Untagged.reference.Goals as goal

pub split_at-requires : goal.split_at-requires
split_at-requires c = rw (c.as_slice-text.ensures.value, c.self.invariant.spelled) (version_within c.self.inside.content.now)

pub returns : goal.returns
returns c =
    subst (λ (v : SignedContent). c.proposal_reference.result ≡ reference_of v) c.self.view_is
    (c.proposal_reference.ensures ∙ ap proposal_reference (c.split_at.ensures.back ∙ ap (drop 2) c.as_slice-text.ensures.value) ∙ reference_is c.self.inside.content.now c.self.inside.bytes.items c.self.invariant.spelled)
