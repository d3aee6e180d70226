-- Edits at a leaf as changes of the cells on the way to it.
use Rattle.std.specs.Prelude.{◌≡◌, ℕ, ◌+◌, ◌*◌, ◌<◌, ◌≤◌, nat_lt, if◌then◌else◌, List, [], ◌∷◌, Option}
use Rattle.std.specs.Global.{Vec}
use Rattle.std.specs.List.{All}
use Rattle.mls_leaf.specs.Parent.{Parent}
use Rattle.mls_leaf.specs.declared.leaf.LeafNode.{LeafNode}
use Rattle.mls_leaf.specs.declared.node.Node.{Node}
use Rattle.mls_tree_cells.specs.declared.changes.Change.{Change}
use Rattle.mls_tree_model.specs.Term.{Term, Leaf, Branch, width, size}
use Rattle.mls_tree_model.specs.Arrays.{leaf_cell, parent_cell}
use Rattle.mls_tree_model.specs.Merge.{merge}
use Rattle.mls_tree_array.specs.Additions.{Adds}
use Rattle.mls_tree_array.specs.Merging.{path_parents}
use Rattle.mls_tree_array.specs.Subtrees.{Subtree}

-- the change that puts this into a place
abbrev pub change : ℕ → Option Node → Change
change n c = record { place = n; slot = c }

-- the cells of leaf i and of the nodes over it, the highest first, in a tree whose first leaf is b (RFC 9420, 4.1.2 and
-- appendix C)
unfoldable pub cells_on_way : ℕ → Term → ℕ → List Change
cells_on_way b (Leaf v) i = change (2 * b) (leaf_cell v) ∷ []
cells_on_way b (Branch c l r) i =
    change (2 * b + size l) (parent_cell c)
    ∷ (if nat_lt i (b + width l) then cells_on_way b l i else cells_on_way (b + width l) r i)

-- the changes were added that make the tree u, whose first leaf is b, of one that differs on the way to leaf i
abbrev pub AddsChanges : ℕ → Term → ℕ → Vec Change → Vec Change → Type 0
AddsChanges b u i old new = Adds (cells_on_way b u i) old new

-- where these are the parents that a merge makes over leaf i, the changes were added that make the merge (RFC 9420, 7.5)
abbrev pub AddsMerge : Subtree → ℕ → LeafNode → List Parent → Vec Change → Vec Change → Type 0
AddsMerge t i leaf ps old new =
    (ks : List (List ℕ)) (above : List ℕ) → ps ≡ path_parents t.first t.term i ks above → AddsChanges t.first (merge t.first t.term i ks above leaf) i old new

-- where these are the parents that a merge makes over leaf i, the changes are those that make the merge
abbrev pub MakesMerge : Subtree → ℕ → LeafNode → List Parent → Vec Change → Type 0
MakesMerge t i leaf ps = λ changes.
    (ks : List (List ℕ)) (above : List ℕ) → ps ≡ path_parents t.first t.term i ks above → changes.items ≡ cells_on_way t.first (merge t.first t.term i ks above leaf) i

-- each change has a place below n
abbrev pub AreBelow : ℕ → List Change → Type 0
AreBelow n cs = All (λ (c : Change). c.place < n) cs

-- changes of cells of a subtree alone were added
abbrev pub AddsWithin : Subtree → Vec Change → Vec Change → Type 0
AddsWithin t old new = (n : ℕ) → 2 * t.first + size t.term ≤ n → AreBelow n old.items → AreBelow n new.items

-- the changes are of cells of a subtree alone, or of cells before it
abbrev pub AreWithin : Subtree → Vec Change → Type 0
AreWithin t = λ changes. AreBelow (2 * t.first + size t.term) changes.items
