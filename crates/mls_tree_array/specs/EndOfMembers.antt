-- Where the taken leaves of a tree end.
use Rattle.std.specs.Prelude.{ℕ, suc, ◌+◌, if◌then◌else◌, Some, None}
use Rattle.mls_tree_model.specs.Term.{Term, Leaf, Branch, width, has_leaf}

-- one past the rightmost taken leaf of a tree whose first leaf is b: b where none is taken
unfoldable pub end_of_members : ℕ → Term → ℕ
end_of_members b (Leaf None) = b
end_of_members b (Leaf (Some v)) = suc b
end_of_members b (Branch c l r) = if has_leaf r then end_of_members (b + width l) r else end_of_members b l
