-- Whether a member's private keys are exactly those that are due, as a test.
use Rattle.std.specs.Prelude.{◌≡◌, ℕ, nat_le, not, ◌&&◌, Bool, true, false, List, [], ◌∷◌, length, Option, Some, None}
use Rattle.std.specs.Str.{bytes_eq}
use Rattle.mls_leaf.specs.Parent.{Parent}
use Rattle.mls_leaf.specs.declared.leaf.LeafNode.{LeafNode}
use Rattle.mls_suite.specs.Crypto.{Crypto}
use Rattle.mls_tree_model.specs.Sets.{has}
use Rattle.mls_tree_model.specs.Term.{Term, leaf_at}
use Rattle.mls_tree_model.specs.Way.{Step, way}
use Rattle.mls_treekem_model.specs.Keys.{Keys, PrivateKeys, keys_on, HasExact}

-- whether what leaf j holds at a parent is what is due: at a blank one nothing, nor at one of which it is an unmerged
-- leaf; at another one its private key (RFC 9420, 7.1 and 7.5)
abbrev pub holds_at : Crypto → ℕ → Option Parent → Option (List ℕ) → Bool
holds_at c j None None = true
holds_at c j None (Some k) = false
holds_at c j (Some p) None = has p.unmerged_leaves j
holds_at c j (Some p) (Some k) = not (has p.unmerged_leaves j) && bytes_eq (c.public k) p.encryption_key

-- whether the key that is left is the private key of the leaf (RFC 9420, 7.2)
abbrev pub holds_own : Crypto → Option LeafNode → Keys → Bool
holds_own c None ks = false
holds_own c (Some x) [] = false
holds_own c (Some x) (None ∷ ks) = false
holds_own c (Some x) (Some k ∷ []) = bytes_eq (c.public k) x.encryption_key
holds_own c (Some x) (Some k ∷ o ∷ ks) = false

-- whether what leaf j holds along a way is what is due, down to its leaf
unfoldable pub holds_along : Crypto → ℕ → List Step → Option LeafNode → Keys → Bool
holds_along c j [] x ks = holds_own c x ks
holds_along c j (s ∷ ss) x [] = false
holds_along c j (s ∷ ss) x (o ∷ ks) = holds_at c j s.parent o && holds_along c j ss x ks

-- whether a member of a whole tree has the private key of its leaf, and of the nodes over it exactly those that are due
unfoldable pub holds_exact : Crypto → Term → PrivateKeys → Bool
holds_exact c t p =
    nat_le (length p.above) (length (way 0 t p.leaf))
    && holds_along c p.leaf (way 0 t p.leaf) (leaf_at 0 t p.leaf) (keys_on t p)

-- a member holds what is due exactly where its keys are exact
abbrev pub ExactIsHeld : Type 0
ExactIsHeld = (c : Crypto) (t : Term) (p : PrivateKeys) → HasExact c t p → holds_exact c t p ≡ true

abbrev pub HeldIsExact : Type 0
HeldIsExact = (c : Crypto) (t : Term) (p : PrivateKeys) → holds_exact c t p ≡ true → HasExact c t p
