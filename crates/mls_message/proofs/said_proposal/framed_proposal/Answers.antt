use Rattle.std.proofs.Common.{◌≡◌, MatchResult, subst}
use Rattle.mls_leaf.specs.declared.proposal.Proposal.{Proposal}
use Rattle.mls_types.specs.declared.content.Content.TheVariants as says
use Rattle.mls_model.specs.Messages.{content_by}
use Rattle.mls_message.specs.Sending.{IsRefused}
use Rattle.mls_message.proofs.WithinLaws.{proposal_fits}
use Rattle.mls_message.proofs.said_proposal.framed_proposal.Goals as goal

pub new-requires : goal.new-requires
new-requires c = rw c.in_ok-clone.ensures.cases (proposal_fits c.args.proposal.now c.requires)

pub returns : goal.returns
returns c = λ m speaks.
    subst (λ (x : Proposal). MatchResult c.new.result (λ f. f ≡ content_by m (says.Proposal x)) (IsRefused m (content_by m (says.Proposal x)))) c.in_ok-clone.ensures.cases (c.new.ensures m speaks)
