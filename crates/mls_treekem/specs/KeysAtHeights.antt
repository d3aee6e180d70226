-- Keys put at the heights of their nodes.
use Rattle.std.specs.Prelude.{◌≡◌, ℕ, ◌-◌, nat_lt, if◌then◌else◌, List, [], ◌∷◌, ◌++◌, length, map, replicate, reverse, unwrap_or, Some, None, Option}
use Rattle.mls_treemath.specs.Steps.{level_in}
use Rattle.mls_suite.specs.Crypto.{Crypto}
use Rattle.mls_suite.specs.declared.KeyPair.{KeyPair}
use Rattle.mls_treekem_model.specs.Chain.{path_secrets, node_key}
use Rattle.mls_treekem_model.specs.Keys.{Keys, PrivateKeys}

-- a member's keys, where those above its leaf are given by their height, the lowest first
abbrev pub keys_by_height : ℕ → List ℕ → Keys → PrivateKeys
keys_by_height leaf own above = record { leaf = leaf; own = own; above = reverse above }

-- how far above the leaves a node is
abbrev pub level_of : ℕ → ℕ
level_of n = unwrap_or (level_in 32 n) 0

-- keys by their height, the lowest first, with one more where none is as high yet
unfoldable pub with_key_at : ℕ → List ℕ → Keys → Keys
with_key_at h k xs = if nat_lt (length xs) h then xs ++ (replicate (h - 1 - length xs) None ++ (Some k ∷ [])) else xs

-- and with the keys of some nodes
unfoldable pub with_keys_at : List ℕ → List (List ℕ) → Keys → Keys
with_keys_at [] ks xs = xs
with_keys_at (n ∷ ns) [] xs = xs
with_keys_at (n ∷ ns) (k ∷ ks) xs = with_keys_at ns ks (with_key_at (level_of n) k xs)

-- a member has the keys of these path secrets at the heights of these nodes, and none above its leaf but those
pub record HasKeysAt (c : Crypto) (start : List ℕ) (nodes : List ℕ) (old new : PrivateKeys) : Type 0 where
  pub leaf : new.leaf ≡ old.leaf
  pub own : new.own ≡ old.own
  pub above : new.above ≡ reverse (with_keys_at nodes (map (node_key c) (path_secrets start (length nodes))) [])

-- the key of each node was put at its height
abbrev pub PutsKeys : List ℕ → List KeyPair → List (Option (List ℕ)) → List (Option (List ℕ)) → Type 0
PutsKeys nodes pairs old new = new ≡ with_keys_at nodes (map (λ p. p.sk) pairs) old
