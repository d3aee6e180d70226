-- A public tree is perfect, whatever its nodes are.
use Rattle.std.proofs.Common.{◌≡◌, ◌^◌, true}
use Rattle.mls_tree_model.specs.Term.{height, is_perfect, width}
use Rattle.mls_tree_model.proofs.ArrayLaws.{perfect-term_of}
use Rattle.mls_tree_model.proofs.ShapeLaws.{width-perfect, height-perfect}
use Rattle.mls_tree_model.proofs.PlaceLaws.{perfect_itself}
use Rattle.mls_tree.specs.Tree.{Tree, term}

pub perfect : (t : Tree) → is_perfect (height (term t)) (term t) ≡ true
perfect t = perfect_itself t.height (term t) (perfect-term_of t.height t.nodes)

-- its height is the one that it is kept with
pub height_is : (t : Tree) → height (term t) ≡ t.height
height_is t = height-perfect t.height (term t) (perfect-term_of t.height t.nodes)

pub perfect_levels : (t : Tree) → is_perfect t.height (term t) ≡ true
perfect_levels t = perfect-term_of t.height t.nodes

-- so its width is a power of two
pub width_is : (t : Tree) → width (term t) ≡ 2 ^ height (term t)
width_is t = width-perfect (height (term t)) (term t) (perfect t)
