-- The tree hashes of a leaf and of the nodes over it, and what a merged path makes of them.
use Rattle.std.specs.Prelude.{◌≡◌, ℕ, zero, suc, ◌+◌, ◌*◌, ◌^◌, nat_lt, if◌then◌else◌, List, [], ◌∷◌, ◌++◌, take, get_or, slice_set, Option, Some, None, Result, IfOk}
use Rattle.std.specs.Global.{Vec}
use Rattle.mls_leaf.specs.Parent.{Parent}
use Rattle.mls_leaf.specs.declared.leaf.LeafNode.{LeafNode}
use Rattle.mls_treemath.specs.Paths.{nodes_in}
use Rattle.mls_tree_cells.specs.Cells.{CellList}
use Rattle.mls_tree_model.specs.Term.{Term, Leaf, Branch, width}
use Rattle.mls_tree_model.specs.Hashes.{tree_hash}
use Rattle.mls_tree_model.specs.Merge.{merge}
use Rattle.mls_tree_array.specs.Merging.{path_parents}
use Rattle.mls_tree_array.specs.Subtrees.{Subtree}

-- the tree hashes of leaf i and of the nodes over it (RFC 9420, 4.1.2 and 7.8), the lowest first
unfoldable pub way_hashes : ℕ → Term → ℕ → List (List ℕ)
way_hashes b (Leaf v) i = tree_hash b (Leaf v) ∷ []
way_hashes b (Branch c l r) i =
    (if nat_lt i (b + width l) then way_hashes b l i else way_hashes (b + width l) r i) ++ (tree_hash b (Branch c l r) ∷ [])

-- where these are the parents that a merge of leaf x makes over leaf i, this is the tree hash of the merged tree, and
-- the hashes on its way to the leaf were added
abbrev pub HashesMerged : ℕ → Term → ℕ → List Parent → LeafNode → List ℕ → List (List ℕ) → List (List ℕ) → Type 0
HashesMerged b t i ps x hash before after =
    (ks : List (List ℕ)) (h : List ℕ) → ps ≡ path_parents b t i ks h → (hash ≡ tree_hash b (merge b t i ks h x)) × (after ≡ before ++ way_hashes b (merge b t i ks h x) i)

-- no hash is kept of leaf i and of the nodes over it, in a tree of height h whose first leaf is b
unfoldable pub IsColdOnWay : ℕ → ℕ → ℕ → List (Option (List ℕ)) → Type 0
IsColdOnWay zero b i hs = get_or hs (2 * b) (Some []) ≡ None
IsColdOnWay (suc h) b i hs =
    (get_or hs (2 * b + nodes_in h) (Some []) ≡ None) × IsColdOnWay h (if nat_lt i (b + 2 ^ h) then b else b + 2 ^ h) i hs

-- kept hashes with these ones of leaf i and of the nodes over it, the lowest first, in a tree of height h whose first
-- leaf is b
unfoldable pub keep_on_way : ℕ → ℕ → ℕ → List (List ℕ) → List (Option (List ℕ)) → List (Option (List ℕ))
keep_on_way zero b i new hs = slice_set hs (2 * b) (Some (get_or new 0 []))
keep_on_way (suc h) b i new hs =
    keep_on_way h (if nat_lt i (b + 2 ^ h) then b else b + 2 ^ h) i (take (suc h) new)
    (slice_set hs (2 * b + nodes_in h) (Some (get_or new (suc h) [])))

-- from some cells to the others these hashes of leaf i and of the nodes over it were kept
abbrev pub KeepsOnWay : ℕ → ℕ → ℕ → List (List ℕ) → CellList → CellList → Type 0
KeepsOnWay h b i new before after = after ≡ record before { hashes = keep_on_way h b i new before.hashes }

-- where these are the parents that a merge makes over leaf i, the hashes on the way to the leaf were added, and the
-- tree hash of the merged tree is answered, where no memory was missing
abbrev pub AddsWay : {E : Type 0} → Subtree → ℕ → List Parent → LeafNode → Vec (List ℕ) → Vec (List ℕ) → Result (List ℕ) E → Type 0
AddsWay t i ps x old new result = IfOk result (λ hash. HashesMerged t.first t.term i ps x hash old.items new.items)
