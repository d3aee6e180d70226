use Rattle.std.proofs.Common.{List, length}
use Rattle.mls_types.specs.Commit.{proposal_or_ref}
use Rattle.mls_types.specs.declared.commit.ProposalOrRef.{ProposalOrRef}
use Rattle.mls_view.specs.Views.{AreItems}
use Rattle.mls_world_plain.proofs.Naming.{NamesBefore}
use Rattle.mls_world_plain.proofs.commit_names.names_listed.Given as goal

abbrev pub invariant-loop-listed : goal.invariant-loop-listed
invariant-loop-listed g l = (list : List ProposalOrRef) → AreItems proposal_or_ref list l.initial.walk → NamesBefore l.member.kept list l.walk l.names.items

abbrev pub decreases-loop-listed : goal.decreases-loop-listed
decreases-loop-listed g l = length l.walk
