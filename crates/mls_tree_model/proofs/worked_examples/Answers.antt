use Rattle.mls_tree_model.proofs.worked_examples.Goals as goal
use Rattle.mls_tree_model.proofs.Examples.{resolution_with_unmerged, filtered_path_of_four, next_add_of_four, add_behind_path, removal_halves, removal_keeps, removal_halves_often, path_of_two, tree_of_two}

pub returns : goal.returns
returns c =
    record {
      resolution = resolution_with_unmerged;
      filtered = filtered_path_of_four;
      next_add = next_add_of_four;
      add_behind = add_behind_path;
      halves = removal_halves;
      keeps = removal_keeps;
      halves_often = removal_halves_often;
      path_of_two = path_of_two;
      tree_of_two = tree_of_two;
    }
