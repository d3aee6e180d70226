-- A member's keys by their height above its leaf, in a tree of any height.
use Rattle.std.specs.Prelude.{◌≡◌, ℕ, zero, suc, ◌+◌, ◌-◌, ◌*◌, ◌^◌, ◌≤◌, nat_lt, if◌then◌else◌, true, List, [], ◌∷◌, ◌++◌, length, map, Option, None, is_some}
use Rattle.mls_tree_model.specs.Term.{Term, is_perfect}
use Rattle.mls_tree_model.specs.Way.{Step, way}
use Rattle.mls_tree_model.specs.Laws.{IsIn}
use Rattle.mls_treekem_model.specs.Keys.{Keys, PrivateKeys, all_keys, key_above, keys_on_way}
use Rattle.mls_treekem_model.specs.Follow.{follow_edit}
use Rattle.mls_treekem_model.specs.Pairs.{Pair, pair_of, pairs}

-- the keys that leaf j has in a perfect tree of height h whose first leaf is b, by rising number of the node
unfoldable pub pairs_from : ℕ → ℕ → ℕ → Keys → List Pair
pairs_from zero b j ks = pair_of (2 * j) (key_above 0 ks)
pairs_from (suc h) b j ks =
    if nat_lt j (b + 2 ^ h) then pairs_from h b j ks ++ pair_of (2 * b + (2 * 2 ^ h - 1)) (key_above (suc h) ks)
    else pair_of (2 * b + (2 * 2 ^ h - 1)) (key_above (suc h) ks) ++ pairs_from h (b + 2 ^ h) j ks

-- numbers of nodes with keys, as pairs
abbrev pub as_pairs : List (ℕ × List ℕ) → List Pair
as_pairs ps = map (λ (n, k). record { node = n; key = k }) ps

-- they are the keys that a member has in each tree with its leaf that isn't lower than its keys
abbrev pub ArePairs : PrivateKeys → List (ℕ × List ℕ) → Type 0
ArePairs p ps = (h : ℕ) (t : Term) → is_perfect h t ≡ true → length p.above ≤ h → IsIn 0 t p.leaf → as_pairs ps ≡ pairs 0 t p.leaf (keys_on_way (way 0 t p.leaf) (all_keys p))

-- the keys above the leaf after edits (RFC 9420, 7.7 and 12.1)
unfoldable pub follow_above : List Step → Keys → Keys
follow_above [] ks = []
follow_above (s ∷ ss) ks = (if is_some s.parent then key_above (suc (length ss)) ks else None) ∷ follow_above ss ks

-- a member's keys after edits that made this tree, where the leaf may have a new one
pub record HasFollowed (own : Option (List ℕ)) (t : Term) (old new : PrivateKeys) : Type 0 where
  pub leaf : new.leaf ≡ old.leaf
  pub keys : all_keys new ≡ follow_edit own (way 0 t old.leaf) (all_keys old)
