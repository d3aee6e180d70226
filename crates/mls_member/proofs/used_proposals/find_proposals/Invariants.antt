use Rattle.std.proofs.Common.{drop}
use Rattle.mls_member.proofs.Uses.{AreUsed}
use Rattle.mls_member.proofs.used_proposals.find_proposals.Given as goal

abbrev pub invariant-loop-listed : goal.invariant-loop-listed
invariant-loop-listed l = AreUsed l.kept l.committer l.list (drop l.listed-index l.list) l.used.items
