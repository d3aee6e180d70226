use Rattle.mls_treekem_model.proofs.laws_of_lists.Goals as goal
use Rattle.mls_treekem_model.proofs.ListLaws.{right_are_below}
use Rattle.mls_treekem_model.proofs.BelowLaws.{below_put, below_enter, below_grow, below_trim, below_merge}

pub returns : goal.returns
returns c =
    record {
      right = right_are_below;
      put = below_put;
      enter = below_enter;
      grow = below_grow;
      trim = below_trim;
      merge = below_merge;
    }
