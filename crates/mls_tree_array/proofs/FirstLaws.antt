-- The first parent of a tree that fails a test, by the root and its sides.
use Rattle.std.proofs.Common.{◌≡◌, ℕ, Bool, if◌then◌else◌, Option, Some, None, sym, ◌∙◌, ap}
use Rattle.mls_leaf.specs.Parent.{Parent}
use Rattle.mls_tree_model.specs.Term.{Term}
use Rattle.mls_tree_model.specs.Edits.{or_else}
use Rattle.mls_tree_model.specs.Lists.{parent_passes}
use Rattle.mls_tree_model.specs.FirstParents.{first_parent}
use Rattle.mls_tree_model.proofs.Equations.{first_parent_branch}
use Rattle.mls_tree_array.specs.Subtrees.{Subtree, root_number, IsOver}

or_some : (x y : Option ℕ) (n : ℕ) → Some n ≡ x → Some n ≡ or_else x y
or_some x y n is = ap (λ o. or_else o y) is

or_none : (x y : Option ℕ) → None ≡ x → y ≡ or_else x y
or_none x y none = ap (λ o. or_else o y) none

module _ (q : ℕ → Parent → Term → Term → Bool) (t l : Subtree) (c : Option Parent) (r : Subtree) (over : IsOver t l c r) where
  by_sides : first_parent q t.first t.term ≡ or_else (first_parent q l.first l.term) (or_else (first_parent q r.first r.term) (if parent_passes q l.first c l.term r.term then None else Some (root_number t.first t.term)))
  by_sides = rw (over.is, over.left_first, over.right_first) (first_parent_branch t.first c l.term r.term q)

  pub first_on_left : (n : ℕ) → Some n ≡ first_parent q l.first l.term → Some n ≡ first_parent q t.first t.term
  first_on_left n some = or_some (first_parent q l.first l.term) _ n some ∙ sym by_sides

  pub first_on_right : (n : ℕ) → None ≡ first_parent q l.first l.term → Some n ≡ first_parent q r.first r.term → Some n ≡ first_parent q t.first t.term
  first_on_right n none some =
      or_some (first_parent q r.first r.term) _ n some ∙ or_none (first_parent q l.first l.term) _ none ∙ sym by_sides

  pub first_by_root : None ≡ first_parent q l.first l.term → None ≡ first_parent q r.first r.term → (if parent_passes q l.first c l.term r.term then None else Some (root_number t.first t.term)) ≡ first_parent q t.first t.term
  first_by_root none also =
      or_none (first_parent q r.first r.term) _ also ∙ or_none (first_parent q l.first l.term) _ none ∙ sym by_sides
