use Rattle.mls_cli_place.specs.TreePlace.{AllBelow, node_stands}
use Rattle.mls_cli_place.proofs.rules.first_misplaced.Given as goal

abbrev pub invariant-loop-x : goal.invariant-loop-x
invariant-loop-x l = AllBelow (node_stands l.nodes) l.x
