use Rattle.std.proofs.Common.{List, Option, length}
use Rattle.mls_wire.specs.Combine.{optional}
use Rattle.mls_leaf.specs.Node.{node}
use Rattle.mls_leaf.specs.declared.node.Node.{Node}
use Rattle.mls_view.specs.Views.{AreItems}
use Rattle.mls_tree_view.proofs.Walks.{Reaches}
use Rattle.mls_tree_view.proofs.long_list.pass_all.Given as goal

abbrev pub invariant-loop-place : goal.invariant-loop-place
invariant-loop-place l = (cells : List (Option Node)) → AreItems (optional node) cells l.initial.walk → Reaches cells l.walk l.passed

abbrev pub decreases-loop-place : goal.decreases-loop-place
decreases-loop-place l = length l.walk
