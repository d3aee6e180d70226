use Rattle.mls_tree_model.proofs.laws_of_lists.Goals as goal
use Rattle.mls_tree_model.proofs.NamedLaws.{named_range, fresh, lists-enter, rises-enter}
use Rattle.mls_tree_model.proofs.ParentLaws.{parents-put, parents-grow, parents-trim}
use Rattle.mls_tree_model.proofs.MergeLaws.{lists-merge, rises-merge}
use Rattle.mls_tree_model.proofs.WholeLaws.{right_update, right_remove, right_add, right_merge_path, rising_update, rising_remove, rising_add, rising_merge_path}

pub returns : goal.returns
returns c =
    record {
      listed = named_range;
      unlisted = fresh;
      put = parents-put;
      grow = parents-grow;
      trim = parents-trim;
      right_enter = λ b t i x p. lists-enter b t i x p.low p.high;
      rising_enter = rises-enter;
      right_merge = lists-merge;
      rising_merge = rises-merge;
      right_update = right_update;
      right_remove = right_remove;
      right_add = right_add;
      right_merge_path = right_merge_path;
      rising_update = rising_update;
      rising_remove = rising_remove;
      rising_add = rising_add;
      rising_merge_path = rising_merge_path;
    }
