-- What code that knows a subtree's leaves and its depth makes of it, whatever the subtree.
use Rattle.std.specs.Prelude.{◌≡◌, ◌+◌, ◌-◌, ◌*◌, ◌/◌, ◌^◌, ◌<◌, ℕ, true, List, ◌++◌, get_or, map, Option, None, Result, OnOk}
use Rattle.mls_leaf.specs.declared.node.Node.{Node}
use Rattle.mls_tree_model.specs.Term.{Term, height, is_perfect, size, width}
use Rattle.mls_tree_model.specs.Arrays.{node_at}
use Rattle.mls_cli_draw.specs.Picture.{characters_of}
use Rattle.mls_cli_draw.specs.Svg.{drawn}
use Rattle.mls_cli_draw.specs.declared.row.Row.{Row}
use Rattle.mls_cli_draw.specs.declared.point.Point.{Point}
use Rattle.mls_cli_draw.specs.declared.point.Subtree.{Subtree}

-- the middle of its own node, over the middle of its leaves
abbrev pub middle : Subtree → Point
middle s = record { x = 80 * s.first + 40 * s.leaves; y = 72 * s.depth }

-- its halves
abbrev pub left_half : Subtree → Subtree
left_half s = record { first = s.first; leaves = s.leaves / 2; depth = s.depth + 1 }

abbrev pub right_half : Subtree → Subtree
right_half s = record { first = s.first + s.leaves / 2; leaves = s.leaves / 2; depth = s.depth + 1 }

-- the number of its own node, which isn't a leaf
abbrev pub own_number : Subtree → ℕ
own_number s = 2 * s.first + s.leaves - 1

-- the numbers of its leaves and its depth leave room for those of its halves
pub record HasRoom (s : Subtree) : Type 0 where
  pub leaves_fit : s.first + s.leaves < 2 ^ 32
  pub depth_fits : s.depth + s.leaves < 2 ^ 32

-- a perfect tree has these leaves, and the nodes hold it
pub record IsSubtree (h : ℕ) (t : Term) (s : Subtree) (nodes : List (Option Node)) : Type 0 where
  pub perfect : is_perfect h t ≡ true
  pub leaves_are : width t ≡ s.leaves
  pub held : (x : ℕ) → x < size t
      → get_or nodes (2 * s.first + x) None ≡ node_at s.first t (2 * s.first + x)

-- the rows of a subtree are put behind the old ones, for each such tree, where the last path has these nodes
abbrev pub PushesSubtree : {T X : Type 0} → Subtree → List (Option Node) → List ℕ
    → List Row → List Row → Result T X → Type 0
PushesSubtree s nodes path old new result =
    (h : ℕ) (t : Term) → IsSubtree h t s nodes
    → OnOk result (map characters_of new ≡ map characters_of old ++ drawn path s.depth s.first t)

-- the height of each perfect tree with so many leaves
abbrev pub IsHeight : ℕ → ℕ → Type 0
IsHeight leaves n = (h : ℕ) (t : Term) → is_perfect h t ≡ true → width t ≡ leaves → n ≡ height t
