-- The keys and the members of a tree.
use Rattle.std.specs.Prelude.{ℕ, ◌+◌, Bool, true, ◌&&◌, List, [], ◌∷◌, ◌++◌, Option, Some, None}
use Rattle.mls_leaf.specs.Parent.{Parent}
use Rattle.mls_leaf.specs.declared.leaf.LeafNode.{LeafNode}
use Rattle.mls_tree_model.specs.Term.{Term, Leaf, Branch, width}

-- what is gathered from the leaves and the parents of a tree, in node order
unfoldable pub gather : (Option LeafNode → List (List ℕ)) → (Option Parent → List (List ℕ)) → Term → List (List ℕ)
gather f g (Leaf v) = f v
gather f g (Branch c l r) = gather f g l ++ (g c ++ gather f g r)

-- the encryption key of a leaf, where it isn't blank
abbrev pub leaf_key : Option LeafNode → List (List ℕ)
leaf_key None = []
leaf_key (Some v) = v.encryption_key ∷ []

-- the encryption key of a parent, where it isn't blank
abbrev pub parent_key : Option Parent → List (List ℕ)
parent_key None = []
parent_key (Some p) = p.encryption_key ∷ []

-- the signature key of a leaf, where it isn't blank
abbrev pub leaf_signature : Option LeafNode → List (List ℕ)
leaf_signature None = []
leaf_signature (Some v) = v.signature_key ∷ []

-- the encryption keys of all nodes that aren't blank
abbrev pub encryption_keys : Term → List (List ℕ)
encryption_keys t = gather leaf_key parent_key t

-- the signature keys of all members
abbrev pub signature_keys : Term → List (List ℕ)
signature_keys t = gather leaf_signature (λ c. []) t

-- the members: the leaves that aren't blank, with their numbers, where the tree's first leaf is b
unfoldable pub members : ℕ → Term → List (ℕ × LeafNode)
members b (Leaf None) = []
members b (Leaf (Some v)) = (b, v) ∷ []
members b (Branch c l r) = members b l ++ members (b + width l) r

-- whether a leaf that may be blank passes a test: a blank one does
abbrev pub passes : (ℕ → LeafNode → Bool) → ℕ → Option LeafNode → Bool
passes p i None = true
passes p i (Some v) = p i v

-- whether each member passes a test of its number and its leaf
unfoldable pub all_members : (ℕ → LeafNode → Bool) → ℕ → Term → Bool
all_members p b (Leaf None) = true
all_members p b (Leaf (Some v)) = p b v
all_members p b (Branch c l r) = all_members p b l && all_members p (b + width l) r
