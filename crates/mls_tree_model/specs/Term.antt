-- Trees as terms: size, shape, and the leaf in a place (RFC 9420, 4.1 and 7.7).
-- A subtree is always read with the number of its first leaf, b. Leaf u is node 2 * u, and a branch is node
-- 2 * b + size l, so that nodes have the numbers of an array in order (RFC 9420, appendix C).
use Rattle.std.specs.Prelude.{ℕ, zero, suc, ◌+◌, nat_lt, Bool, true, false, ◌&&◌, ◌||◌, if◌then◌else◌, Option, None, is_some}
use Rattle.mls_leaf.specs.Parent.{Parent}
use Rattle.mls_leaf.specs.declared.leaf.LeafNode.{LeafNode}

-- a ratchet tree: a binary tree, whose leaves and parents may be blank (RFC 9420, 4.1 and 7.1)
pub data Term : Type 0 where
  Leaf : Option LeafNode → Term
  Branch : Option Parent → Term → Term → Term

-- how many leaves it has
unfoldable pub width : Term → ℕ
width (Leaf v) = 1
width (Branch c l r) = width l + width r

-- how many nodes it has
unfoldable pub size : Term → ℕ
size (Leaf v) = 1
size (Branch c l r) = size l + suc (size r)

-- its height, along the left side
unfoldable pub height : Term → ℕ
height (Leaf v) = 0
height (Branch c l r) = suc (height l)

-- whether all its leaves are at this depth
unfoldable pub is_perfect : ℕ → Term → Bool
is_perfect zero (Leaf v) = true
is_perfect (suc h) (Leaf v) = false
is_perfect zero (Branch c l r) = false
is_perfect (suc h) (Branch c l r) = is_perfect h l && is_perfect h r

-- the tree of this height whose nodes are all blank
unfoldable pub blanks : ℕ → Term
blanks zero = Leaf None
blanks (suc h) = Branch None (blanks h) (blanks h)

-- whether it has a member: some leaf of it isn't blank
unfoldable pub has_leaf : Term → Bool
has_leaf (Leaf v) = is_some v
has_leaf (Branch c l r) = has_leaf l || has_leaf r

-- whether its right half has a member, or its only leaf is one, so that no smaller tree would do (RFC 9420, 7.7)
unfoldable pub is_full_width : Term → Bool
is_full_width (Leaf v) = is_some v
is_full_width (Branch c l r) = has_leaf r

-- leaf i of a tree whose first leaf is b
unfoldable pub leaf_at : ℕ → Term → ℕ → Option LeafNode
leaf_at b (Leaf v) i = v
leaf_at b (Branch c l r) i = if nat_lt i (b + width l) then leaf_at b l i else leaf_at (b + width l) r i

-- leaf i of a whole tree: none where it is blank or outside the tree
unfoldable pub leaf_of : Term → ℕ → Option LeafNode
leaf_of t i = if nat_lt i (width t) then leaf_at 0 t i else None
