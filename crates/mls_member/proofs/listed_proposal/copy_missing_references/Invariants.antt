use Rattle.std.proofs.Common.{drop}
use Rattle.mls_member.specs.ListedProposals.{missing_reference}
use Rattle.mls_member.proofs.ListedProposals.{IsPicked}
use Rattle.mls_member.proofs.listed_proposal.copy_missing_references.Given as goal

abbrev pub invariant-loop-listed : goal.invariant-loop-listed
invariant-loop-listed l = IsPicked (missing_reference l.kept) l.list (drop l.listed-index l.list) l.missing.items
