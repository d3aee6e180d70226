use Rattle.mls_tree_model.proofs.laws_of_resolutions.Goals as goal
use Rattle.mls_tree_model.specs.Lists.{lists_here}
use Rattle.mls_tree_model.proofs.NamedLaws.{lists_bound}
use Rattle.mls_tree_model.proofs.ResolutionLaws.{reached, resolution_range, resolution-enter}
use Rattle.mls_tree_model.proofs.PathLaws.{length-filtered_path}
use Rattle.mls_tree_model.proofs.CountLaws.{resolution_distinct}
use Rattle.mls_tree_model.proofs.EntryLaws.{one_held, one_held_of_rest, one_filtered}

pub returns : goal.returns
returns c =
    record {
      reached = reached;
      within = resolution_range lists_here lists_bound;
      distinct = λ b t g. resolution_distinct lists_here lists_bound b t g.right g.rising;
      held = λ b t j g p. one_held lists_here lists_bound b t j g.right g.rising p.low p.high;
      held_of_rest = λ b t j us g p. one_held_of_rest lists_here lists_bound b t j us g.right g.rising p.low p.high;
      filtered = λ b t i j p q. one_filtered b t i j p.low p.high q.low q.high;
      path_length = length-filtered_path;
      added = λ b t i x d p. resolution-enter b t i x d p.low p.high;
    }
