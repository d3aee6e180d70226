-- Lists of unmerged leaves, as far as a member's keys need them to be right.
use Rattle.std.specs.Prelude.{◌≡◌, ℕ, ◌+◌, nat_lt, nat_le, Bool, true, ◌&&◌}
use Rattle.std.specs.List.{list_all}
use Rattle.mls_leaf.specs.Parent.{Parent}
use Rattle.mls_tree_model.specs.Term.{Term, width}
use Rattle.mls_tree_model.specs.Lists.{all_parents, rises_here}

-- whether a parent lists only leaves below it (RFC 9420, 7.1)
unfoldable pub below_here : ℕ → Parent → Term → Term → Bool
below_here b p l r = list_all (λ u. nat_le b u && nat_lt u (b + (width l + width r))) p.unmerged_leaves

-- so does each parent of a tree, and each list rises
pub record ListsBelow (b : ℕ) (t : Term) : Type 0 where
  pub below : all_parents below_here b t ≡ true
  pub rising : all_parents rises_here b t ≡ true
