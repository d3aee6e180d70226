use Rattle.std.proofs.Common.{sym, subst}
use Rattle.mls_leaf.specs.declared.key_package.KeyPackage.{KeyPackage}
use Rattle.mls_leaf.specs.declared.proposal.Proposal.TheVariants.{Add}
use Rattle.mls_public_group.specs.ShortProposal.{IsShortProposal}
use Rattle.mls_candidate.proofs.Packages.{addition_short}
use Rattle.mls_candidate.proofs.candidate.Candidate.addition.Goals as goal

pub returns-clause-short : goal.returns-clause-short
returns-clause-short g c = subst (λ (k : KeyPackage). IsShortProposal (Add k)) (sym c.in_ok-clone.ensures.cases) (addition_short c.self.inside.offered c.self.invariant.1)
