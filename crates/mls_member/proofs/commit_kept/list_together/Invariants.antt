use Rattle.std.proofs.Common.{length}
use Rattle.mls_tree.specs.Tree.{term}
use Rattle.mls_member.proofs.KeptTogether.{AreListed}
use Rattle.mls_member.proofs.commit_kept.list_together.Given as goal

abbrev pub invariant-loop-one : goal.invariant-loop-one
invariant-loop-one l = AreListed l.me (term l.tree) l.kept l.rest l.items.items

abbrev pub decreases-loop-one : goal.decreases-loop-one
decreases-loop-one l = length l.rest
