-- Trees as lists of their nodes in order (RFC 9420, appendix C).
use Rattle.std.specs.Prelude.{ℕ, zero, suc, ◌-◌, nat_le, Bool, true, false, not, ◌&&◌, if◌then◌else◌, List, [], ◌∷◌, ◌++◌, length, take, drop, replicate, slice_index_or, Option, Some, None, is_some, Result, Ok}
use Rattle.mls_wire.specs.Checks.{require, ◌>>◌}
use Rattle.mls_leaf.specs.Parent.{Parent}
use Rattle.mls_leaf.specs.declared.leaf.LeafNode.{LeafNode}
use Rattle.mls_leaf.specs.declared.node.Node.{Node}
use Rattle.mls_leaf.specs.declared.node.Node.TheVariants.{Leaf as in_leaf, Parent as in_parent}
use Rattle.mls_treemath.specs.Paths.{nodes_in}
use Rattle.mls_tree_model.specs.Term.{Term, Leaf, Branch, is_full_width}
use Rattle.mls_tree_model.specs.Places.{at_node}
use Rattle.mls_tree_model.specs.Good.{is_within}

-- the leaf in a cell: none where the cell is blank or holds a parent
abbrev pub leaf_in : Option Node → Option LeafNode
leaf_in None = None
leaf_in (Some (in_leaf v)) = Some v
leaf_in (Some (in_parent p)) = None

-- the parent in a cell: none where the cell is blank or holds a leaf
abbrev pub parent_in : Option Node → Option Parent
parent_in None = None
parent_in (Some (in_leaf v)) = None
parent_in (Some (in_parent p)) = Some p

-- the cell that holds a leaf, or is blank
abbrev pub leaf_cell : Option LeafNode → Option Node
leaf_cell None = None
leaf_cell (Some v) = Some (in_leaf v)

-- the cell that holds a parent, or is blank
abbrev pub parent_cell : Option Parent → Option Node
parent_cell None = None
parent_cell (Some p) = Some (in_parent p)

-- the tree of height h whose nodes stand in a list: the root is in the middle (RFC 9420, appendix C)
unfoldable pub term_of : ℕ → List (Option Node) → Term
term_of zero xs = Leaf (leaf_in (slice_index_or xs 0 None))
term_of (suc h) xs =
    Branch (parent_in (slice_index_or xs (nodes_in h) None))
    (term_of h (take (nodes_in h) xs))
    (term_of h (drop (suc (nodes_in h)) xs))

-- the nodes of a tree in order (RFC 9420, appendix C)
unfoldable pub in_order : Term → List (Option Node)
in_order (Leaf v) = leaf_cell v ∷ []
in_order (Branch c l r) = in_order l ++ (parent_cell c ∷ in_order r)

-- ---- as trees are sent (RFC 9420, 12.4.3.3)

-- a cell before others, which is left out where it is blank and nothing follows
abbrev pub before : Option Node → List (Option Node) → List (Option Node)
before None [] = []
before None (d ∷ ds) = None ∷ d ∷ ds
before (Some n) ds = Some n ∷ ds

-- a list without the blank cells at its end
unfoldable pub without_last_blanks : List (Option Node) → List (Option Node)
without_last_blanks [] = []
without_last_blanks (c ∷ cs) = before c (without_last_blanks cs)

-- the nodes that are sent: all up to the last one that isn't blank
unfoldable pub to_nodes : Term → List (Option Node)
to_nodes t = without_last_blanks (in_order t)

-- whether there is a last cell, and it isn't blank
unfoldable pub has_last : List (Option Node) → Bool
has_last [] = false
has_last (c ∷ []) = is_some c
has_last (c ∷ d ∷ cs) = has_last (d ∷ cs)

-- whether a cell may stand at an even place, or at an odd one: leaves at even ones, parents at odd ones
abbrev pub may_stand : Bool → Option Node → Bool
may_stand even None = true
may_stand even (Some (in_leaf v)) = even
may_stand even (Some (in_parent p)) = not even

-- whether each cell may stand in its place, where the first is an even one or an odd one
unfoldable pub alternates : Bool → List (Option Node) → Bool
alternates even [] = true
alternates even (c ∷ cs) = may_stand even c && alternates (not even) cs

-- the least height, from h on, of a tree with at least n nodes, where no more than so many heights are tried
unfoldable pub height_from : ℕ → ℕ → ℕ → ℕ
height_from zero h n = h
height_from (suc more) h n = if nat_le n (nodes_in h) then h else height_from more (suc h) n

-- the least height of a tree with at least n nodes (RFC 9420, 12.4.3.3)
unfoldable pub height_for : ℕ → ℕ
height_for n = height_from n 0 n

-- a list of nodes with blank ones behind it, up to the least tree that holds them (RFC 9420, 12.4.3.3)
unfoldable pub with_padding : List (Option Node) → List (Option Node)
with_padding xs = xs ++ replicate (nodes_in (height_for (length xs)) - length xs) None

-- the tree that nodes stand for
unfoldable pub sent_term : List (Option Node) → Term
sent_term xs = term_of (height_for (length xs)) (with_padding xs)

-- the tree that nodes stand for, with the checks of its shape and size: `TreeShape` (20) without a last node that
-- isn't blank, with a leaf or a parent out of its place, or without a member in the right half; `TreeFull` (21) where
-- it is too large (RFC 9420, 7.7 and 12.4.3.3)
unfoldable pub from_nodes : ℕ → List (Option Node) → Result Term ℕ
from_nodes limit xs =
    require 20 (has_last xs)
    >> (require 20 (alternates true xs)
    >> (require 20 (is_full_width (sent_term xs))
    >> (require 21 (is_within limit (sent_term xs))
    >> Ok (sent_term xs))))

-- ---- what stands at a place

-- what a subtree has at its own node
abbrev pub own_node : ℕ → Term → Option Node
own_node b (Leaf v) = leaf_cell v
own_node b (Branch c l r) = parent_cell c

-- node n of a tree whose first leaf is b: none where it is blank or outside the tree
unfoldable pub node_at : ℕ → Term → ℕ → Option Node
node_at b t n = at_node None own_node b t n
