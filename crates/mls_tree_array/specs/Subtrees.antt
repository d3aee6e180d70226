-- Subtrees, and what their roots are over.
use Rattle.std.specs.Prelude.{◌≡◌, ◌⊎◌, ℕ, suc, ◌+◌, ◌*◌, ◌^◌, ◌<◌, ◌≤◌, Option, Some, None}
use Rattle.mls_leaf.specs.Parent.{Parent}
use Rattle.mls_tree_model.specs.Term.{Term, Leaf, Branch, width, size, height}
use Rattle.mls_tree_model.specs.Places.{at_node}

-- a subtree: the number of its first leaf, and its term
pub record Subtree : Type 0 where
  pub first : ℕ
  pub term : Term

-- one past the number of its last leaf
abbrev pub end : Subtree → ℕ
end t = t.first + width t.term

-- the place of the root among the nodes of a tree
abbrev pub root_place : Term → ℕ
root_place (Leaf v) = 0
root_place (Branch c l r) = size l

-- the number of the root of a tree whose first leaf is b
abbrev pub root_number : ℕ → Term → ℕ
root_number b t = 2 * b + root_place t

-- the subtree whose root is node n, in a tree whose first leaf is b
abbrev pub subtree_at : ℕ → Term → ℕ → Option Subtree
subtree_at b t n = at_node None (λ c s. Some (record { first = c; term = s })) b t n

-- a subtree has this parent over these sides, which are of one height; its leaves have numbers below 2^31
pub record IsOver (t l : Subtree) (c : Option Parent) (r : Subtree) : Type 0 where
  pub is : t.term ≡ Branch c l.term r.term
  pub left_first : l.first ≡ t.first
  pub right_first : r.first ≡ t.first + width l.term
  pub fits : end t ≤ 2 ^ 31
  pub low : height t.term < 2 ^ 32
  pub left_height : suc (height l.term) ≡ height t.term
  pub right_height : suc (height r.term) ≡ height t.term

-- a subtree has this parent over these sides, of which the first has leaf i, or would have it
pub record IsStep (t : Subtree) (i : ℕ) (side : Subtree) (c : Option Parent) (other : Subtree) : Type 0 where
  pub turn : (IsOver t side c other × (i < other.first)) ⊎ (IsOver t other c side × (side.first ≤ i))
  pub height_is : suc (height side.term) ≡ height t.term
  pub low : height t.term < 2 ^ 32
