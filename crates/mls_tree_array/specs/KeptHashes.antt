-- Tree hashes that are kept beside the nodes of a tree, in node order: at a cold node there is none.
use Rattle.std.specs.Prelude.{◌≡◌, ℕ, suc, ◌+◌, ◌*◌, nat_lt, Bool, not, if◌then◌else◌, List, [], ◌∷◌, ◌++◌, length, take, drop, map, slice_index_or, Option, Some, None, is_some}
use Rattle.std.specs.List.{count_by}
use Rattle.mls_tree_model.specs.Term.{Term, Leaf, Branch, width, size}
use Rattle.mls_tree_model.specs.Way.{way}
use Rattle.mls_tree_model.specs.Hashes.{tree_hash}

-- the tree hashes of all subtrees of a tree whose first leaf is b (RFC 9420, 7.8), each in the place of its root
unfoldable pub hashes_of : ℕ → Term → List (Option (List ℕ))
hashes_of b (Leaf v) = Some (tree_hash b (Leaf v)) ∷ []
hashes_of b (Branch c l r) = hashes_of b l ++ (Some (tree_hash b (Branch c l r)) ∷ hashes_of (b + width l) r)

-- what holds by the hash at a root: the first where there is none, the second where there is one
abbrev pub by_root : Option (List ℕ) → Type 0 → Type 0 → Type 0
by_root None cold warm = cold
by_root (Some h) cold warm = warm

-- whether kept hashes are those of a tree whose first leaf is b: below a node that has one all are there and right, and
-- below a node that has none it is so for each side
unfoldable pub Keeps : ℕ → Term → List (Option (List ℕ)) → Type 0
Keeps b (Leaf v) hs = by_root (slice_index_or hs 0 None) (hs ≡ None ∷ []) (hs ≡ hashes_of b (Leaf v))
Keeps b (Branch c l r) hs =
    by_root (slice_index_or hs (size l) None)
    ((length hs ≡ size (Branch c l r)) × Keeps b l (take (size l) hs) × Keeps (b + width l) r (drop (suc (size l)) hs))
    (hs ≡ hashes_of b (Branch c l r))

-- the kept hashes without those of leaf i and of the nodes over it
unfoldable pub drop_hashes : ℕ → Term → ℕ → List (Option (List ℕ)) → List (Option (List ℕ))
drop_hashes b (Leaf v) i hs = None ∷ []
drop_hashes b (Branch c l r) i hs =
    if nat_lt i (b + width l)
    then drop_hashes b l i (take (size l) hs) ++ (None ∷ drop (suc (size l)) hs)
    else take (size l) hs ++ (None ∷ drop_hashes (b + width l) r i (drop (suc (size l)) hs))

-- whether there is no hash in a place
abbrev pub is_cold_at : List (Option (List ℕ)) → ℕ → Bool
is_cold_at hs n = not (is_some (slice_index_or hs n (Some [])))

-- in how many places there is none
abbrev pub cold_places : List (Option (List ℕ)) → ℕ
cold_places hs = count_by (λ h. not (is_some h)) hs

-- leaf i and the nodes over it, its direct path (RFC 9420, 4.1.2), as node numbers
unfoldable pub nodes_upward : ℕ → Term → ℕ → List ℕ
nodes_upward b t i = (2 * i) ∷ map (λ s. s.node) (way b t i)
