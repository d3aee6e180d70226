-- A rising list of leaves in two parts.
use Rattle.std.specs.Prelude.{◌≡◌, ℕ, ◌<◌, ◌≤◌, true, List, length, take, drop}
use Rattle.mls_leaf.specs.Parent.{rises}
use Rattle.mls_tree_model.specs.Sets.{has}

-- the first n of a list are the leaves before this one
pub record Splits (us : List ℕ) (end n : ℕ) : Type 0 where
  pub within : n ≤ length us
  pub before : (j : ℕ) → j < end → has us j ≡ has (take n us) j
  pub behind : (j : ℕ) → end ≤ j → has us j ≡ has (drop n us) j
  pub front_rises : rises (take n us) ≡ true
  pub back_rises : rises (drop n us) ≡ true
