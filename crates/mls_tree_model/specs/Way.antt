-- The way from the root to a leaf, and the filtered direct path (RFC 9420, 4.1.2).
use Rattle.std.specs.Prelude.{ℕ, ◌+◌, ◌*◌, nat_lt, nat_le, ◌&&◌, if◌then◌else◌, Bool, List, [], ◌∷◌, map, filter, reverse, length, Option}
use Rattle.mls_leaf.specs.Parent.{Parent}
use Rattle.mls_tree_model.specs.Term.{Term, Leaf, Branch, width, size}
use Rattle.mls_tree_model.specs.Sets.{less, leaf_numbers}
use Rattle.mls_tree_model.specs.Resolution.{resolution, is_reached}

-- a parent over a leaf: what it holds, its number, and its side where the leaf isn't, with the first leaf of that side
pub record Step : Type 0 where
  pub parent : Option Parent
  pub node : ℕ
  pub first : ℕ
  pub other : Term

-- a step of these parts
abbrev pub step_at : Option Parent → ℕ → ℕ → Term → Step
step_at c n m s = record { parent = c; node = n; first = m; other = s }

-- the parents over leaf i of a tree whose first leaf is b, the highest first: its direct path, read from the root;
-- their other sides are its copath (RFC 9420, 4.1.2)
unfoldable pub way : ℕ → Term → ℕ → List Step
way b (Leaf v) i = []
way b (Branch c l r) i =
    if nat_lt i (b + width l) then step_at c (2 * b + size l) (b + width l) r ∷ way b l i
    else step_at c (2 * b + size l) b l ∷ way (b + width l) r i

-- whether the filtered direct path takes a parent in, which is then a filtered parent: the resolution of its other side
-- isn't empty (RFC 9420, 4.1.2)
abbrev pub is_filtered : Step → Bool
is_filtered s = is_reached s.first s.other

-- whether leaf j is a leaf of the other side
abbrev pub is_beside : Step → ℕ → Bool
is_beside s j = nat_le s.first j && nat_lt j (s.first + width s.other)

-- the parents over leaf i that the filtered direct path takes in, the highest first (RFC 9420, 4.1.2)
unfoldable pub filtered_way : ℕ → Term → ℕ → List Step
filtered_way b t i = filter is_filtered (way b t i)

-- the filtered direct path of leaf i as node numbers, the lowest first (RFC 9420, 4.1.2)
unfoldable pub filtered_path : ℕ → Term → ℕ → List ℕ
filtered_path b t i = reverse (map (λ s. s.node) (filtered_way b t i))

-- how many parents the filtered direct path of leaf i takes in
unfoldable pub path_length : ℕ → Term → ℕ → ℕ
path_length b t i = length (filtered_way b t i)

-- how many nodes a path secret is sealed to on a parent's other side, whose first leaf is m: those that reach all its
-- members, without the leaves just added (RFC 9420, 7.6)
abbrev pub target_count : List ℕ → ℕ → Term → ℕ
target_count added m s = length (less (leaf_numbers added) (resolution m s))

-- how many ciphertexts each node of leaf i's path has, the lowest first (RFC 9420, 7.6 and 12.4.2)
unfoldable pub ciphertext_counts : ℕ → Term → ℕ → List ℕ → List ℕ
ciphertext_counts b t i added = reverse (map (λ (s : Step). target_count added s.first s.other) (filtered_way b t i))
