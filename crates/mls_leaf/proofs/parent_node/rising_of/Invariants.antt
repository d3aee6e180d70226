use Rattle.std.proofs.Common.{length}
use Rattle.mls_wire.specs.StatefulReads.{run_at}
use Rattle.mls_leaf.proofs.RunLoops.{GoesOnFrom}
use Rattle.mls_leaf.specs.ParentNode.{rising_rule}
use Rattle.mls_leaf.proofs.parent_node.rising_of.Given as goal

abbrev pub invariant-loop-content : goal.invariant-loop-content
invariant-loop-content l = GoesOnFrom rising_rule (run_at rising_rule (length l.fn.content) 0 l.fn.content) l.entries.items l.least l.content

abbrev pub decreases-loop-content : goal.decreases-loop-content
decreases-loop-content l = length l.content
