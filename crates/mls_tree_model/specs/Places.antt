-- What stands at a node, by its number.
use Rattle.std.specs.Prelude.{ℕ, ◌+◌, ◌*◌, ◌==◌, nat_lt, if◌then◌else◌, List, [], Option, Some, None}
use Rattle.mls_leaf.specs.Parent.{Parent}
use Rattle.mls_leaf.specs.declared.leaf.LeafNode.{LeafNode}
use Rattle.mls_tree_model.specs.Term.{Term, Leaf, Branch, width, size}
use Rattle.mls_tree_model.specs.Resolution.{resolution}

-- what f gives of the subtree whose own node is number n, in a tree whose first leaf is b; this value where no node has
-- that number
unfoldable pub at_node : {A : Type 0} → A → (ℕ → Term → A) → ℕ → Term → ℕ → A
at_node none f b (Leaf v) n = if n == 2 * b then f b (Leaf v) else none
at_node none f b (Branch c l r) n =
    if n == 2 * b + size l then f b (Branch c l r)
    else if nat_lt n (2 * b + size l) then at_node none f b l n else at_node none f (b + width l) r n

-- the resolution of node n, empty outside the tree (RFC 9420, 4.1.1)
unfoldable pub resolution_at : ℕ → Term → ℕ → List ℕ
resolution_at b t n = at_node [] resolution b t n

-- the encryption key of a leaf, where it isn't blank
abbrev pub leaf_own_key : Option LeafNode → Option (List ℕ)
leaf_own_key None = None
leaf_own_key (Some v) = Some v.encryption_key

-- the encryption key of a parent, where it isn't blank
abbrev pub parent_own_key : Option Parent → Option (List ℕ)
parent_own_key None = None
parent_own_key (Some p) = Some p.encryption_key

-- the encryption key of a subtree's own node, where it isn't blank
abbrev pub own_key : ℕ → Term → Option (List ℕ)
own_key b (Leaf v) = leaf_own_key v
own_key b (Branch c l r) = parent_own_key c

-- the encryption key of node n: none where it is blank or outside the tree
unfoldable pub key_at : ℕ → Term → ℕ → Option (List ℕ)
key_at b t n = at_node None own_key b t n
