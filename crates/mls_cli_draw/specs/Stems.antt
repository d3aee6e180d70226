-- What code that knows how many leaves a tree has makes of it, whatever the tree.
use Rattle.std.specs.Prelude.{◌≡◌, ℕ, true, List, ◌++◌, Option, Result, OnOk}
use Rattle.mls_leaf.specs.declared.node.Node.{Node}
use Rattle.mls_tree_model.specs.Term.{Term, is_perfect, width}
use Rattle.mls_tree_model.specs.Arrays.{to_nodes}
use Rattle.mls_cli_draw.specs.Picture.{stem, stem_below}
use Rattle.mls_cli_draw.specs.declared.stem.Side.{Side}

-- what stands before a node is put behind the old characters, in each perfect tree of so many leaves
abbrev pub PushesStemBelow : {T X : Type 0} → Side → ℕ → ℕ → List ℕ → List ℕ → Result T X → Type 0
PushesStemBelow side leaves x old new result =
    (h : ℕ) (t : Term) → is_perfect h t ≡ true → width t ≡ leaves
    → OnOk result (new ≡ old ++ stem_below side t x)

abbrev pub PushesStem : {T X : Type 0} → ℕ → ℕ → List ℕ → List ℕ → Result T X → Type 0
PushesStem leaves x old new result =
    (h : ℕ) (t : Term) → is_perfect h t ≡ true → width t ≡ leaves
    → OnOk result (new ≡ old ++ stem t x)

-- a perfect tree has so many leaves, and is sent as these nodes
pub record IsOfTree (h : ℕ) (t : Term) (leaves : ℕ) (nodes : List (Option Node)) : Type 0 where
  pub perfect : is_perfect h t ≡ true
  pub leaves_are : width t ≡ leaves
  pub nodes_are : nodes ≡ to_nodes t
