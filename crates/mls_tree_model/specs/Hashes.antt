-- Tree hashes, original siblings, parent hashes and their validity (RFC 9420, 7.8 and 7.9).
use Rattle.std.specs.Prelude.{ℕ, ◌+◌, ◌*◌, ◌==◌, nat_lt, Bool, false, not, ◌&&◌, ◌||◌, if◌then◌else◌, List, filter, Option, Some, None}
use Rattle.std.specs.List.{list_any}
use Rattle.mls_leaf.specs.Parent.{Parent}
use Rattle.mls_tree_model.specs.Node.{leaf_parent_hash, own_parent_hash}
use Rattle.mls_tree_model.specs.Inputs.{leaf_hash, branch_hash, sibling_hash}
use Rattle.mls_tree_model.specs.Term.{Term, Leaf, Branch, width, size}
use Rattle.mls_tree_model.specs.Sets.{has, less, within, leaf_numbers, is_same_set, same_bytes}
use Rattle.mls_tree_model.specs.Resolution.{resolution}

-- the hash of a tree whose first leaf is b (RFC 9420, 7.8)
unfoldable pub tree_hash : ℕ → Term → List ℕ
tree_hash b (Leaf v) = leaf_hash b v
tree_hash b (Branch c l r) = branch_hash c (tree_hash b l) (tree_hash (b + width l) r)

-- a parent, which may be blank, with some leaves taken out of its list (RFC 9420, 7.9)
abbrev pub unlist_leaves : List ℕ → Option Parent → Option Parent
unlist_leaves us None = None
unlist_leaves us (Some p) =
    Some (record { encryption_key = p.encryption_key; parent_hash = p.parent_hash; unmerged_leaves = less us p.unmerged_leaves })

-- a tree as it was before some leaves were added: these are blanked and taken out of each list (RFC 9420, 7.9)
unfoldable pub original_tree : List ℕ → ℕ → Term → Term
original_tree us b (Leaf v) = Leaf (if has us b then None else v)
original_tree us b (Branch c l r) = Branch (unlist_leaves us c) (original_tree us b l) (original_tree us (b + width l) r)

-- the parent hash of a parent with its side s as the copath child, whose first leaf is m: it ties what is below the
-- other side to the parent (RFC 9420, 7.9)
unfoldable pub parent_hash : Parent → ℕ → Term → List ℕ
parent_hash p m s = sibling_hash p.encryption_key p.parent_hash (tree_hash m (original_tree p.unmerged_leaves m s))

-- the field parent_hash of node d: of a parent, or of a leaf whose source is a commit (RFC 9420, 7.1 and 7.2)
unfoldable pub hash_at : ℕ → Term → ℕ → Option (List ℕ)
hash_at b (Leaf v) d = if d == 2 * b then leaf_parent_hash v else None
hash_at b (Branch c l r) d =
    if d == 2 * b + size l then own_parent_hash c
    else if nat_lt d (2 * b + size l) then hash_at b l d else hash_at (b + width l) r d

-- whether there is a byte string, and it is this one
abbrev pub is_some_bytes : Option (List ℕ) → List ℕ → Bool
is_some_bytes None h = false
is_some_bytes (Some g) h = same_bytes g h

-- whether node d of the side c, whose first leaf is b, is a witness of the parent: it has the parent's parent hash with
-- the other side s, and the leaves that the parent lists below c are c's resolution without d (RFC 9420, 7.9.2)
unfoldable pub is_witness : Parent → ℕ → Term → ℕ → Term → ℕ → Bool
is_witness p b c m s d =
    is_some_bytes (hash_at b c d) (parent_hash p m s)
    && is_same_set (leaf_numbers (within b (width c) p.unmerged_leaves)) (filter (λ x. not (x == d)) (resolution b c))

-- whether some node of the resolution of the side c is a witness of the parent (RFC 9420, 7.9.2)
unfoldable pub has_witness : Parent → ℕ → Term → ℕ → Term → Bool
has_witness p b c m s = list_any (is_witness p b c m s) (resolution b c)

-- whether a parent is parent-hash valid: it has a witness on one of its sides (RFC 9420, 7.9.2)
unfoldable pub is_parent_hash_valid : ℕ → Parent → Term → Term → Bool
is_parent_hash_valid b p l r = has_witness p b l (b + width l) r || has_witness p (b + width l) r b l
