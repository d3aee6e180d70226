use Rattle.std.proofs.Common.{length}
use Rattle.mls_tree.specs.Tree.{term}
use Rattle.mls_member.proofs.KeptTogether.{AreLeft}
use Rattle.mls_member.proofs.commit_kept.list_left_out.Given as goal

abbrev pub invariant-loop-one : goal.invariant-loop-one
invariant-loop-one l = AreLeft l.me (term l.tree) l.kept l.rest l.references.items

abbrev pub decreases-loop-one : goal.decreases-loop-one
decreases-loop-one l = length l.rest
