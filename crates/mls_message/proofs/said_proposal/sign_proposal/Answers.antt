use Rattle.std.proofs.Common.{◌≡◌, ℕ, List, [], refl, subst, ◌∙◌}
use Rattle.mls_wire.specs.Checks.{Answers}
use Rattle.mls_leaf.specs.Faults.{number_of}
use Rattle.mls_leaf.specs.declared.proposal.Proposal.{Proposal}
use Rattle.mls_types.specs.SignedParts.{with_signature}
use Rattle.mls_types.specs.declared.content.Content.TheVariants as says
use Rattle.mls_types.specs.declared.content.FramedContent.{FramedContent}
use Rattle.mls_types.specs.declared.signed.SignedContent.{SignedContent}
use Rattle.mls_suite.specs.Crypto.{Crypto}
use Rattle.mls_model.specs.Member.{Member}
use Rattle.mls_model.specs.Messages.{content_by, content_signature, message_by}
use Rattle.mls_model.specs.Propose.{proposal_by}
use Rattle.mls_public_group.specs.MessageLimit.{limited_text}
use Rattle.mls_message.specs.declared.said_proposal.SaidProposal.{SaidProposal}
use Rattle.mls_message.proofs.said_proposal.sign_proposal.Goals as goal

-- a member's proposal is its content, signed
signed_said : (c : Crypto) (m : Member) (x : Proposal) (framed : FramedContent) (v : SignedContent) → v ≡ with_signature framed (content_signature c m.signing framed m.public.context) [] → framed ≡ content_by m (says.Proposal x) → v ≡ proposal_by c m x
unfolding proposal_by
signed_said c m x framed v e f = e ∙ rw f refl

pub returns-clause-message : goal.returns-clause-message
returns-clause-message g c = λ m speaks.
    subst (λ (v : SignedContent). Answers {A = List ℕ} {B = SaidProposal} (λ s. s.message.items) number_of (limited_text (message_by m v)) c.message_and_reference_of.result)
    (signed_said g.S.Suite.crypto m c.args.proposal.now c.in_ok-framed.framed c.in_ok-content.content (c.in_ok-content.ensures.content m speaks) (c.in_ok-framed.ensures m speaks)) (c.message_and_reference_of.ensures.message m speaks)
