use Rattle.mls_tree.specs.Tree.{term}
use Rattle.mls_cli_place.specs.TreePlace.{AllBelow, leaf_is_capable}
use Rattle.mls_cli_place.proofs.rules.incapable_leaf.Given as goal

abbrev pub invariant-loop-i : goal.invariant-loop-i
invariant-loop-i l = AllBelow (leaf_is_capable l.suite (term l.tree)) l.i
