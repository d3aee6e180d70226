-- Edits after which a member's keys stay right: they only blank parents over its leaf, or keep their keys.
use Rattle.std.specs.Prelude.{◌≡◌, ℕ, ◌==◌, if◌then◌else◌, List, [], ◌∷◌, length, Option, Some, None}
use Rattle.mls_leaf.specs.Parent.{Parent}
use Rattle.mls_tree_model.specs.Sets.{has}
use Rattle.mls_tree_model.specs.Term.{Term, leaf_at}
use Rattle.mls_tree_model.specs.Way.{Step, way}

-- an edit only blanks a parent, or keeps its key and whether it lists leaf j
abbrev pub TameAt : ℕ → Option Parent → Option Parent → Type 0
TameAt j p None = Unit {0}
TameAt j None (Some q) = ⊥
TameAt j (Some p) (Some q) = (p.encryption_key ≡ q.encryption_key) × (has p.unmerged_leaves j ≡ has q.unmerged_leaves j)

-- an edit is so at each parent of a way, by the parents before it and after
unfoldable pub TameAlong : ℕ → List Step → List Step → Type 0
TameAlong j [] [] = Unit {0}
TameAlong j [] (s ∷ ss) = ⊥
TameAlong j (s ∷ ss) [] = ⊥
TameAlong j (s ∷ ss) (s' ∷ ss') = TameAt j s.parent s'.parent × TameAlong j ss ss'

-- an edit is tame at each parent over leaf j, and keeps the leaf
pub record Tame (j b : ℕ) (t t' : Term) : Type 0 where
  pub along : TameAlong j (way b t j) (way b t' j)
  pub leaf : leaf_at b t j ≡ leaf_at b t' j

-- what a way has n nodes above its lowest one
unfoldable pub parent_above : ℕ → List Step → Option Parent
parent_above n [] = None
parent_above n (s ∷ ss) = if length ss == n then s.parent else parent_above n ss

-- edits between two whole trees, which may have other heights, are tame for leaf j
pub record TameEdits (j : ℕ) (t t' : Term) : Type 0 where
  pub above : (n : ℕ) → TameAt j (parent_above n (way 0 t j)) (parent_above n (way 0 t' j))
  pub leaf : leaf_at 0 t j ≡ leaf_at 0 t' j
