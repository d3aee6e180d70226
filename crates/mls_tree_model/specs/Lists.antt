-- Properties of each parent, and right lists of unmerged leaves.
use Rattle.std.specs.Prelude.{ℕ, ◌+◌, nat_lt, nat_le, Bool, true, false, ◌&&◌, ◌||◌, if◌then◌else◌, Option, Some, None, is_some}
use Rattle.std.specs.List.{list_all}
use Rattle.mls_leaf.specs.Parent.{Parent, rises_from}
use Rattle.mls_tree_model.specs.Term.{Term, Leaf, Branch, width}
use Rattle.mls_tree_model.specs.Sets.{has}

-- whether a parent that may be blank passes a test: a blank one does
abbrev pub parent_passes : (ℕ → Parent → Term → Term → Bool) → ℕ → Option Parent → Term → Term → Bool
parent_passes q b None l r = true
parent_passes q b (Some p) l r = q b p l r

-- whether each parent of a tree passes a test of its first leaf, itself and its two sides
unfoldable pub all_parents : (ℕ → Parent → Term → Term → Bool) → ℕ → Term → Bool
all_parents q b (Leaf v) = true
all_parents q b (Branch c l r) = parent_passes q b c l r && (all_parents q b l && all_parents q (b + width l) r)

-- whether a parent that may be blank lists leaf u: a blank one needn't
abbrev pub may_list : Option Parent → ℕ → Bool
may_list None u = true
may_list (Some p) u = has p.unmerged_leaves u

-- whether leaf u is a member, and each parent over it that isn't blank lists it
unfoldable pub is_listed : ℕ → Term → ℕ → Bool
is_listed b (Leaf v) u = is_some v
is_listed b (Branch c l r) u =
    may_list c u && (if nat_lt u (b + width l) then is_listed b l u else is_listed (b + width l) r u)

-- whether a parent may list leaf u: it is a member below the parent, and each parent between that isn't blank lists it
-- (RFC 9420, 12.4.3.1)
unfoldable pub may_be_listed : ℕ → Term → Term → ℕ → Bool
may_be_listed b l r u =
    nat_le b u && (nat_lt u (b + (width l + width r))
    && (if nat_lt u (b + width l) then is_listed b l u else is_listed (b + width l) r u))

-- whether a parent lists only what it may list (RFC 9420, 12.4.3.1)
unfoldable pub lists_here : ℕ → Parent → Term → Term → Bool
lists_here b p l r = list_all (may_be_listed b l r) p.unmerged_leaves

-- whether a parent's list rises (RFC 9420, 7.1)
unfoldable pub rises_here : ℕ → Parent → Term → Term → Bool
rises_here b p l r = rises_from 0 p.unmerged_leaves

-- whether a parent lists leaf u
abbrev pub lists : Option Parent → ℕ → Bool
lists None u = false
lists (Some p) u = has p.unmerged_leaves u

-- whether some parent of a tree lists leaf u
unfoldable pub is_listed_anywhere : Term → ℕ → Bool
is_listed_anywhere (Leaf v) u = false
is_listed_anywhere (Branch c l r) u = lists c u || (is_listed_anywhere l u || is_listed_anywhere r u)
