use Rattle.mls_tree_model.proofs.laws_of_shape.Goals as goal
use Rattle.mls_tree_model.proofs.ShapeLaws.{width-perfect, size-width, width-put, width-enter, perfect-put, perfect-enter, perfect-grow, perfect-trim, full-trim}
use Rattle.mls_tree_model.proofs.MergeLaws.{width-merge}
use Rattle.mls_tree_model.proofs.PlaceLaws.{perfect-merge}

pub returns : goal.returns
returns c =
    record {
      width_of_perfect = width-perfect;
      size_of_width = size-width;
      width_of_put = width-put;
      width_of_enter = width-enter;
      width_of_merge = width-merge;
      perfect_put = perfect-put;
      perfect_enter = perfect-enter;
      perfect_grow = perfect-grow;
      perfect_trim = perfect-trim;
      perfect_merge = perfect-merge;
      full_trim = full-trim;
    }
