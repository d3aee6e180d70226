-- A member's keys after edits of the tree.
use Rattle.std.specs.Prelude.{ℕ, suc, if◌then◌else◌, List, [], ◌∷◌, length, Option, Some, None, is_some}
use Rattle.mls_tree_model.specs.Term.{Term, Leaf, Branch, has_leaf}
use Rattle.mls_tree_model.specs.Way.{Step}
use Rattle.mls_treekem_model.specs.Keys.{Keys, rest, key_above}

-- ---- one edit after another

-- the keys of parents that are blank now are dropped (RFC 9420, 7.7)
unfoldable pub follow : List Step → Keys → Keys
follow [] ks = ks
follow (s ∷ ss) [] = []
follow (s ∷ ss) (o ∷ ks) = (if is_some s.parent then o else None) ∷ follow ss ks

-- the keys of nodes that were cut off are dropped (RFC 9420, 7.7)
unfoldable pub follow_trim : Term → Keys → Keys
follow_trim (Leaf v) ks = ks
follow_trim (Branch c l r) ks = if has_leaf r then ks else follow_trim l (rest ks)

-- ---- all edits in one pass over the edited tree
-- Doubling and halving change how many parents are over a leaf, but not how high each of them is above it: so keys are
-- found by their height.

-- the leaf's key, a new one where the leaf was updated
abbrev pub leaf_key_after : Option (List ℕ) → Keys → Option (List ℕ)
leaf_key_after (Some k) ks = Some k
leaf_key_after None ks = key_above 0 ks

-- at each node of the edited tree the key that was held as far above the leaf, unless the node is blank
-- (RFC 9420, 7.7 and 12.1)
unfoldable pub follow_edit : Option (List ℕ) → List Step → Keys → Keys
follow_edit own [] ks = leaf_key_after own ks ∷ []
follow_edit own (s ∷ ss) ks = (if is_some s.parent then key_above (suc (length ss)) ks else None) ∷ follow_edit own ss ks
