use Rattle.std.proofs.Common.{ap, arith, length}
use Rattle.mls_cli_place.proofs.Repeating.{found_low}
use Rattle.mls_cli_place.proofs.Short.{few_nodes}
use Rattle.mls_cli_place.proofs.breach.breach_of_rule.Goals as goal

pub first_repeated-requires : goal.first_repeated-requires
first_repeated-requires g c = record { few = omega (arith, few_nodes c.args.nodes.now c.requires.short, ap length c.as_slice-in-Keys.ensures) }

pub first_repeated-requires-in-Clients : goal.first_repeated-requires-in-Clients
first_repeated-requires-in-Clients g c = record { few = omega (arith, few_nodes c.args.nodes.now c.requires.short, ap length c.as_slice-in-Clients.ensures) }

pub at_leaf_node-requires : goal.at_leaf_node-requires
at_leaf_node-requires g c =
    found_low _ _ c.in_ok-found-in-Clients.found (omega (arith, few_nodes c.args.nodes.now c.requires.short, ap length c.as_slice-in-Clients.ensures)) c.in_ok-found-in-Clients.ensures
