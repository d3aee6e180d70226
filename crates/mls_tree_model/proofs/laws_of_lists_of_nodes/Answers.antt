use Rattle.mls_tree_model.proofs.laws_of_lists_of_nodes.Goals as goal
use Rattle.mls_tree_model.proofs.ArrayLaws.{term_of-in_order, perfect-term_of, from_to_nodes}
use Rattle.mls_tree_model.proofs.ArrayLaws.{node-in_order}
use Rattle.mls_tree_model.proofs.Numbers.{leaf-is_node, node-of_way, leaf-by_bits}
use Rattle.mls_tree_model.proofs.Directs.{way_above}

pub returns : goal.returns
returns c =
    record {
      term = term_of-in_order;
      perfect = perfect-term_of;
      sent = from_to_nodes;
      node = node-in_order;
      leaf = λ b t i p. leaf-is_node b t i p.low p.high;
      way = node-of_way;
      direct_path = way_above;
      bits = leaf-by_bits;
    }
