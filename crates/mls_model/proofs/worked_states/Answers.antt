use Rattle.mls_model.proofs.worked_states.Goals as goal
use Rattle.mls_model.proofs.Examples.{halves_and_doubles, keys_of_cut_nodes, taken_again, taken_by_same, removed_by_list, updated_twice, updated_and_removed, committer_first, committer_removed, two_lists, one_list_twice, leaf_before_lists, list_of_removed, list_asks_for_path, list_replaces, list_clears, list_stays, uses_kept, uses_unknown}

pub returns : goal.returns
returns c =
    record {
      halves_and_doubles = halves_and_doubles;
      keys_of_cut_nodes = keys_of_cut_nodes;
      taken_again = taken_again;
      taken_by_same = taken_by_same;
      removed_by_list = removed_by_list;
      updated_twice = updated_twice;
      updated_and_removed = updated_and_removed;
      committer_first = committer_first;
      committer_removed = committer_removed;
      two_lists = two_lists;
      one_list_twice = one_list_twice;
      leaf_before_lists = leaf_before_lists;
      list_of_removed = list_of_removed;
      list_asks_for_path = list_asks_for_path;
      list_replaces = list_replaces;
      list_clears = list_clears;
      list_stays = list_stays;
      uses_kept = uses_kept;
      uses_unknown = uses_unknown;
    }
