use Rattle.mls_cli_place.specs.TreePlace.{AllBelow, node_is_fit}
use Rattle.mls_cli_place.proofs.rules.first_unfit.Given as goal

abbrev pub invariant-loop-x : goal.invariant-loop-x
invariant-loop-x g l = AllBelow (node_is_fit g.S.Suite.crypto l.nodes) l.x
