-- Edits of a tree whose first leaf is b.
use Rattle.std.specs.Prelude.{ℕ, ◌+◌, nat_lt, if◌then◌else◌, Option, Some, None}
use Rattle.mls_leaf.specs.Parent.{Parent, rising_with}
use Rattle.mls_leaf.specs.declared.leaf.LeafNode.{LeafNode}
use Rattle.mls_tree_model.specs.Term.{Term, Leaf, Branch, width, height, blanks, has_leaf}

-- leaf i replaced, and each parent over it blanked (RFC 9420, 7.7 and 12.1.2)
unfoldable pub put : ℕ → Term → ℕ → Option LeafNode → Term
put b (Leaf v) i x = Leaf x
put b (Branch c l r) i x =
    if nat_lt i (b + width l) then Branch None (put b l i x) r else Branch None l (put (b + width l) r i x)

-- a parent whose list has leaf i too, once (RFC 9420, 12.1.1)
abbrev pub with_leaf : ℕ → Parent → Parent
with_leaf i p =
    record { encryption_key = p.encryption_key; parent_hash = p.parent_hash; unmerged_leaves = rising_with i p.unmerged_leaves }

-- a parent that may be blank, with leaf i in its list where it isn't
abbrev pub list_leaf : ℕ → Option Parent → Option Parent
list_leaf i None = None
list_leaf i (Some p) = Some (with_leaf i p)

-- leaf i filled, and listed by each parent over it that isn't blank (RFC 9420, 12.1.1)
unfoldable pub enter : ℕ → Term → ℕ → LeafNode → Term
enter b (Leaf v) i x = Leaf (Some x)
enter b (Branch c l r) i x =
    if nat_lt i (b + width l) then Branch (list_leaf i c) (enter b l i x) r
    else Branch (list_leaf i c) l (enter (b + width l) r i x)

-- twice the leaves: a blank root, the tree on its left, blank nodes on its right (RFC 9420, 7.7)
unfoldable pub grow : Term → Term
grow t = Branch None t (blanks (height t))

-- the left half alone, as long as the right half has no member (RFC 9420, 7.7)
unfoldable pub trim : Term → Term
trim (Leaf v) = Leaf v
trim (Branch c l r) = if has_leaf r then Branch c l r else trim l

-- the first of two numbers that is there
abbrev pub or_else : Option ℕ → Option ℕ → Option ℕ
or_else None o = o
or_else (Some i) o = Some i

-- the number of the leftmost blank leaf of a tree whose first leaf is b (RFC 9420, 12.1.1)
unfoldable pub first_blank : ℕ → Term → Option ℕ
first_blank b (Leaf None) = Some b
first_blank b (Leaf (Some v)) = None
first_blank b (Branch c l r) = or_else (first_blank b l) (first_blank (b + width l) r)

-- where a leaf is added: at the leftmost blank leaf, and where there is none at the first leaf of the half that
-- doubling adds (RFC 9420, 7.7 and 12.1.1)
abbrev pub place_for : Option ℕ → Term → ℕ
place_for None t = width t
place_for (Some i) t = i

-- the tree that a leaf is added in: the doubled one where no leaf is blank, else the same
abbrev pub room_for : Option ℕ → Term → Term
room_for None t = grow t
room_for (Some i) t = t

-- where a leaf is added in a whole tree
abbrev pub place_in : Term → ℕ
place_in t = place_for (first_blank 0 t) t

-- a leaf added to a whole tree (RFC 9420, 12.1.1)
unfoldable pub add : Term → LeafNode → Term
add t x = enter 0 (room_for (first_blank 0 t) t) (place_in t) x

-- leaf i updated (RFC 9420, 12.1.2)
unfoldable pub update : Term → ℕ → LeafNode → Term
update t i x = put 0 t i (Some x)

-- leaf i removed (RFC 9420, 12.1.3)
unfoldable pub remove : Term → ℕ → Term
remove t i = trim (put 0 t i None)
