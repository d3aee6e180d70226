-- Small trees, worked out.
use Rattle.std.proofs.Common.{refl}
use Rattle.mls_leaf.specs.Parent.{rising_with}
use Rattle.mls_tree_model.specs.Term.{width, size, has_leaf}
use Rattle.mls_tree_model.specs.Resolution.{resolution}
use Rattle.mls_tree_model.specs.Places.{at_node, resolution_at}
use Rattle.mls_tree_model.specs.Way.{way, filtered_way, filtered_path}
use Rattle.mls_tree_model.specs.Edits.{put, enter, trim, first_blank, add, remove}
use Rattle.mls_tree_model.specs.Merge.{merge, merge_path}
use Rattle.mls_tree_model.specs.Examples.{ResolutionWithUnmerged, FilteredPathOfFour, NextAddOfFour, AddBehindPath, RemovalHalves, RemovalKeeps, RemovalHalvesOften, PathOfTwo, TreeOfTwo}

pub resolution_with_unmerged : ResolutionWithUnmerged
unfolding resolution_at at_node resolution width size
resolution_with_unmerged x y z key hash = refl

pub filtered_path_of_four : FilteredPathOfFour
unfolding filtered_path filtered_way way resolution width size
filtered_path_of_four x y z = refl

pub next_add_of_four : NextAddOfFour
unfolding first_blank width
next_add_of_four x y z = refl

pub add_behind_path : AddBehindPath
unfolding add merge_path merge enter rising_with first_blank resolution width size
add_behind_path x y z w v key = refl

pub removal_halves : RemovalHalves
unfolding remove put trim has_leaf width
removal_halves a b c d e = refl

pub removal_keeps : RemovalKeeps
unfolding remove put trim has_leaf width
removal_keeps a b c d = refl

pub removal_halves_often : RemovalHalvesOften
unfolding remove put trim has_leaf width
removal_halves_often a b = refl

pub path_of_two : PathOfTwo
unfolding remove put trim has_leaf filtered_path filtered_way way resolution width size
path_of_two a b c d = refl

pub tree_of_two : TreeOfTwo
unfolding remove put trim has_leaf merge_path merge resolution width size
tree_of_two a b c d w key = refl
