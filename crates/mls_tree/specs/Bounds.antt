-- What a tree keeps of which leaves are taken, so that no edit looks at all of them.
use Rattle.std.specs.Prelude.{◌≡◌, ℕ, ◌+◌, ◌*◌, ◌<◌, ◌≤◌, None, IsSome}
use Rattle.mls_tree_model.specs.Term.{Term, width, leaf_of}

-- each leaf before the first number is taken, and each leaf from the second on is blank
pub record Bounds (t : Term) (full_to blank_from : ℕ) : Type 0 where
  pub full : (j : ℕ) → j < full_to → IsSome (leaf_of t j)
  pub blank : (j : ℕ) → blank_from ≤ j → leaf_of t j ≡ None

-- the last member of a tree, whose members end before leaf e, is another one than i, and on the right half
pub record IsLastBeside (i e : ℕ) (t : Term) : Type 0 where
  pub other : i + 1 < e
  pub right : width t < 2 * e
