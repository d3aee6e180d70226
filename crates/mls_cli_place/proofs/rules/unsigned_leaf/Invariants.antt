use Rattle.mls_tree.specs.Tree.{term}
use Rattle.mls_cli_place.specs.TreePlace.{AllBelow, leaf_is_signed}
use Rattle.mls_cli_place.proofs.rules.unsigned_leaf.Given as goal

abbrev pub invariant-loop-i : goal.invariant-loop-i
invariant-loop-i g l = AllBelow (leaf_is_signed g.S.Suite.crypto l.group_id (term l.tree)) l.i
