-- The resolution of a tree (RFC 9420, 4.1.1).
use Rattle.std.specs.Prelude.{ℕ, ◌+◌, ◌*◌, Bool, true, false, not, List, [], ◌∷◌, ◌++◌, Some, None}
use Rattle.mls_tree_model.specs.Term.{Term, Leaf, Branch, width, size}
use Rattle.mls_tree_model.specs.Sets.{leaf_numbers}

-- the nodes that together reach all members of a tree whose first leaf is b, as node numbers: a node that isn't
-- blank gives itself and then its unmerged leaves, a blank leaf nothing, a blank parent what its sides give
-- (RFC 9420, 4.1.1)
unfoldable pub resolution : ℕ → Term → List ℕ
resolution b (Leaf None) = []
resolution b (Leaf (Some v)) = (2 * b) ∷ []
resolution b (Branch (Some p) l r) = (2 * b + size l) ∷ leaf_numbers p.unmerged_leaves
resolution b (Branch None l r) = resolution b l ++ resolution (b + width l) r

-- whether a list is empty
abbrev pub is_empty : List ℕ → Bool
is_empty [] = true
is_empty (x ∷ xs) = false

-- whether the resolution of a tree whose first leaf is b isn't empty
abbrev pub is_reached : ℕ → Term → Bool
is_reached b t = not (is_empty (resolution b t))
