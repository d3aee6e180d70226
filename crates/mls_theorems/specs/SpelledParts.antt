-- What a message that has a spelling is made of has one, and so has what a commit uses.
use Rattle.mls_leaf.specs.Proposal.{proposal}
use Rattle.mls_types.specs.declared.commit.ProposalOrRef.{ProposalOrRef}
use Rattle.mls_types.specs.declared.commit.ProposalOrRef.TheVariants as listed

-- a proposal that a list gives in full has a spelling
abbrev pub FullFits : ProposalOrRef → Type 0
FullFits (listed.Proposal said) = proposal.Fits said
FullFits (listed.Reference r) = Unit {0}
