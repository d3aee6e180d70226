-- Laws: the list of a merged tree stands for that tree.
use Rattle.std.proofs.Common.{◌≡◌, ℕ, List, Option}
use Rattle.mls_leaf.specs.declared.leaf.LeafNode.{LeafNode}
use Rattle.mls_leaf.specs.declared.node.Node.{Node}
use Rattle.mls_tree_model.specs.Merge.{merge}
use Rattle.mls_tree_model.specs.Arrays.{term_of, in_order}
use Rattle.mls_tree_model.proofs.PlaceLaws.{perfect-merge}
use Rattle.mls_tree_model.proofs.ArrayLaws.{perfect-term_of}
use Rattle.mls_tree_array.specs.StandingLaws.{StandsFor}
use Rattle.mls_tree_array.proofs.StandingLaws.{stands_for}

pub stands_for-merge : (h b i : ℕ) (ks : List (List ℕ)) (g : List ℕ) (x : LeafNode) (xs ys : List (Option Node)) → ys ≡ in_order (merge b (term_of h xs) i ks g x) → StandsFor h ys (merge b (term_of h xs) i ks g x)
stands_for-merge h b i ks g x xs ys is = stands_for h _ ys (perfect-merge h b (term_of h xs) i ks g x (perfect-term_of h xs)) is
