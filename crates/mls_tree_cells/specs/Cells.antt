-- The cells of a tree in node order (RFC 9420, appendix C).
use Rattle.std.specs.Prelude.{◌≡◌, ℕ, List, [], ◌∷◌, Option, None, slice_set}
use Rattle.mls_leaf.specs.declared.node.Node.{Node}
use Rattle.mls_tree_cells.specs.declared.changes.Change.{Change}

-- the nodes in order, and beside each its kept tree hash; a cold one has none
pub record CellList : Type 0 where
  pub nodes : List (Option Node)
  pub hashes : List (Option (List ℕ))

-- the nodes after these changes, one after the other: each slot stands in its place
abbrev pub put_nodes : List Change → List (Option Node) → List (Option Node)
put_nodes [] xs = xs
put_nodes (c ∷ cs) xs = put_nodes cs (slice_set xs c.place c.slot)

-- the hashes after them: none is kept beside a slot that was put
abbrev pub drop_hashes_at : List Change → List (Option (List ℕ)) → List (Option (List ℕ))
drop_hashes_at [] hs = hs
drop_hashes_at (c ∷ cs) hs = drop_hashes_at cs (slice_set hs c.place None)

-- these changes were made
pub record Puts (cs : List Change) (old new : CellList) : Type 0 where
  pub nodes : new.nodes ≡ put_nodes cs old.nodes
  pub hashes : new.hashes ≡ drop_hashes_at cs old.hashes
