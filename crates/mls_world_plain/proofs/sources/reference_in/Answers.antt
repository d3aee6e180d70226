use Rattle.mls_world_plain.proofs.Readings.{said_is, unsaid_is}
use Rattle.mls_world_plain.proofs.sources.reference_in.Goals as goal

pub returns-in-Proposal : goal.returns-in-Proposal
returns-in-Proposal c = λ shown shows. said_is c.args.view.now shown _ _ shows c.in-Proposal.is (c.reference.ensures shown shows)

pub returns-in_default : goal.returns-in_default
returns-in_default c = λ shown shows. unsaid_is c.args.view.now shown shows c.in_default.not-Proposal
