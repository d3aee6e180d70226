use Rattle.mls_treekem_model.proofs.laws_of_targets.Goals as goal
use Rattle.mls_tree_model.proofs.ResolutionLaws.{reached, resolution_range}
use Rattle.mls_tree_model.proofs.CountLaws.{resolution_distinct}
use Rattle.mls_tree_model.proofs.EntryLaws.{one_filtered}
use Rattle.mls_treekem_model.specs.Lists.{below_here}
use Rattle.mls_treekem_model.proofs.ListLaws.{below_bound}
use Rattle.mls_treekem_model.proofs.TargetLaws.{one_node, one_target}
use Rattle.mls_treekem_model.proofs.EntryLaws.{key_where_held, one_entry, entry_key}
use Rattle.mls_treekem_model.proofs.PairLaws.{pairs_in_order, pairs_found}

pub returns : goal.returns
returns c =
    record {
      filled = reached;
      in_place = λ b t d h. resolution_range below_here below_bound b t d h.below;
      distinct = λ b t h. resolution_distinct below_here below_bound b t h.below h.rising;
      one_filtered = λ b t i j two. one_filtered b t i j two.first.low two.first.high two.second.low two.second.high two.apart;
      one_node = one_node;
      held = key_where_held;
      one_entry = one_entry;
      one_target = one_target;
      entry_key = entry_key;
      in_order = pairs_in_order;
      found = pairs_found;
    }
