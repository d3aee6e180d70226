use Rattle.std.proofs.Common.{◌≡◌, take, map}
use Rattle.mls_member.specs.ListedProposals.{listed_as}
use Rattle.mls_member.proofs.listed_proposal.copy_used_proposals.Given as goal

abbrev pub invariant-loop-one : goal.invariant-loop-one
invariant-loop-one l = l.copies.items ≡ map listed_as (take l.one-index l.used)
