-- Small trees, worked out.
use Rattle.std.specs.Prelude.{◌≡◌, ℕ, List, [], ◌∷◌, Option, Some, None}
use Rattle.mls_leaf.specs.Parent.{Parent}
use Rattle.mls_leaf.specs.declared.leaf.LeafNode.{LeafNode}
use Rattle.mls_tree_model.specs.Term.{Term, Leaf, Branch, width}
use Rattle.mls_tree_model.specs.Places.{resolution_at}
use Rattle.mls_tree_model.specs.Way.{filtered_path}
use Rattle.mls_tree_model.specs.Edits.{place_in, add, remove}
use Rattle.mls_tree_model.specs.Merge.{merge_path}

abbrev pub member : LeafNode → Term
member x = Leaf (Some x)

abbrev pub blank : Term
blank = Leaf None

abbrev pub over : Term → Term → Term
over l r = Branch None l r

-- a parent that lists these leaves
abbrev pub listing_these : List ℕ → List ℕ → List ℕ → Option Parent
listing_these key hash us = Some (record { encryption_key = key; parent_hash = hash; unmerged_leaves = us })

-- 4 leaves, leaf 1 blank, nodes 1 and 3 blank, node 5 lists leaf 3: the resolution of node 3 is nodes 0, 5 and 6
abbrev pub ResolutionWithUnmerged : Type 0
ResolutionWithUnmerged = (x y z : LeafNode) (key hash : List ℕ) →
    resolution_at 0 (over (over (member x) blank) (Branch (listing_these key hash (3 ∷ [])) (member y) (member z))) 3 ≡ 0 ∷ 5 ∷ 6 ∷ []

-- 4 leaves, members 0, 2 and 3: the filtered path of leaf 0 is node 3 alone
abbrev pub FilteredPathOfFour : Type 0
FilteredPathOfFour = (x y z : LeafNode) → filtered_path 0 (over (over (member x) blank) (over (member y) (member z))) 0 ≡ 3 ∷ []

-- there the next add goes to leaf 1
abbrev pub NextAddOfFour : Type 0
NextAddOfFour = (x y z : LeafNode) → place_in (over (over (member x) blank) (over (member y) (member z))) ≡ 1

-- and where it comes behind leaf 0's path, node 3 has the path's key and lists leaf 1
abbrev pub AddBehindPath : Type 0
AddBehindPath = (x y z w v : LeafNode) (key : List ℕ) →
    add (merge_path (over (over (member x) blank) (over (member y) (member z))) 0 w (key ∷ [])) v
    ≡ Branch (listing_these key [] (1 ∷ [])) (over (member w) (member v)) (over (member y) (member z))

-- 8 leaves, members 0 to 4: without leaf 4 the tree has 4 leaves
abbrev pub RemovalHalves : Type 0
RemovalHalves = (a b c d e : LeafNode) →
    width (remove (over (over (over (member a) (member b)) (over (member c) (member d))) (over (over (member e) blank) (over blank blank))) 4) ≡ 4

-- 4 leaves, all members: without leaf 3 the tree still has 4 leaves
abbrev pub RemovalKeeps : Type 0
RemovalKeeps = (a b c d : LeafNode) → width (remove (over (over (member a) (member b)) (over (member c) (member d))) 3) ≡ 4

-- 8 leaves, members 0 and 4: without leaf 4 the tree has 1 leaf
abbrev pub RemovalHalvesOften : Type 0
RemovalHalvesOften = (a b : LeafNode) →
    width (remove (over (over (over (member a) blank) (over blank blank)) (over (over (member b) blank) (over blank blank))) 4) ≡ 1

-- 4 leaves, all members: without leaves 0 and 1 the filtered path of leaf 2 is node 5 alone
abbrev pub PathOfTwo : Type 0
PathOfTwo = (a b c d : LeafNode) →
    filtered_path 0 (remove (remove (over (over (member a) (member b)) (over (member c) (member d))) 0) 1) 2 ≡ 5 ∷ []

-- and behind that path the tree has 4 leaves, a blank root, and at node 5 an empty parent hash
abbrev pub TreeOfTwo : Type 0
TreeOfTwo = (a b c d w : LeafNode) (key : List ℕ) →
    merge_path (remove (remove (over (over (member a) (member b)) (over (member c) (member d))) 0) 1) 2 w (key ∷ [])
    ≡ over (over blank blank) (Branch (listing_these key [] []) (member w) (member d))
