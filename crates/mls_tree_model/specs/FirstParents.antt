-- The first parent of a tree that fails a test that each should pass.
use Rattle.std.specs.Prelude.{ℕ, ◌+◌, ◌*◌, Bool, if◌then◌else◌, Option, Some, None}
use Rattle.mls_leaf.specs.Parent.{Parent}
use Rattle.mls_tree_model.specs.Term.{Term, Leaf, Branch, width, size}
use Rattle.mls_tree_model.specs.Edits.{or_else}
use Rattle.mls_tree_model.specs.Lists.{parent_passes, lists_here}
use Rattle.mls_tree_model.specs.Hashes.{is_parent_hash_valid}
use Rattle.mls_tree_model.specs.Good.{has_good_lists}

-- the first parent of a tree that fails a test of its first leaf, itself and its two sides, as a node number, where the
-- tree's first leaf is b: those below a parent come before it, and those on its left side before those on its right
unfoldable pub first_parent : (ℕ → Parent → Term → Term → Bool) → ℕ → Term → Option ℕ
first_parent q b (Leaf v) = None
first_parent q b (Branch c l r) =
    or_else (first_parent q b l)
    (or_else (first_parent q (b + width l) r)
    (if parent_passes q b c l r then None else Some (2 * b + size l)))

-- `UnmergedWrong` (23): the first parent that lists a leaf that it may not (RFC 9420, 12.4.3.1)
abbrev pub first_wrong_list : Term → Option ℕ
first_wrong_list t = first_parent lists_here 0 t

-- `ParentHashWrong` (24): the first parent that isn't parent-hash valid, where all lists are right (RFC 9420, 7.9.2)
abbrev pub first_wrong_hash : Term → Option ℕ
first_wrong_hash t = if has_good_lists t then first_parent is_parent_hash_valid 0 t else None
