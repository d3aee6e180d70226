use Rattle.mls_treemath.proofs.Ways.{no_node}
use Rattle.mls_treemath.proofs.Lowest.{node_has_way, way_leads_back, node_of_way}
use Rattle.mls_treemath.proofs.laws.laws_of_ways.Goals as goal

pub returns : goal.returns
returns c = record { way_of_node = node_has_way; leads_back = way_leads_back; node_of_way = node_of_way; outside = no_node }
