-- The texts of places aren't empty.
use Rattle.std.proofs.Common.{◌<◌, ◌++◌, ℕ, List, codes, length, arith, length-append}
use Rattle.std.specs.Fmt.{decimal}
use Rattle.mls_cli_place.specs.declared.place.Place.{Place}
use Rattle.mls_cli_place.specs.declared.tree_place.TreePlace.{TreePlace}
use Rattle.mls_cli_place.specs.declared.tree_place.TreePlace.TheVariants as tree
use Rattle.mls_cli_place.specs.Text.{path_text, place_text, tree_place_text}

pub place_nonempty : (p : Place) → 0 < length (place_text p)
place_nonempty p = omega (arith, length-append (codes "offset: ") (decimal p.offset ++ codes "\nfield: " ++ path_text p.path ++ codes "\n"))

longer : (front : List ℕ) → 0 < length (front ++ codes "\n")
longer front = omega (arith, length-append front (codes "\n"))

pub tree_place_nonempty : (p : TreePlace) → 0 < length (tree_place_text p)
tree_place_nonempty (tree.Node x) = longer (codes "node: " ++ decimal x)
tree_place_nonempty (tree.Leaf i) = longer (codes "leaf: " ++ decimal i)
