-- A member's keys as pairs of a node and its private key.
use Rattle.std.specs.Prelude.{ℕ, ◌+◌, ◌*◌, ◌<◌, nat_lt, ◌==◌, if◌then◌else◌, List, [], ◌∷◌, ◌++◌, Option, Some, None}
use Rattle.mls_tree_model.specs.Term.{Term, Leaf, Branch, width, size}
use Rattle.mls_treekem_model.specs.Keys.{Keys}

-- a private key with the number of its node
pub record Pair : Type 0 where
  pub node : ℕ
  pub key : List ℕ

abbrev pub pair_of : ℕ → Option (List ℕ) → List Pair
pair_of n (Some k) = record { node = n; key = k } ∷ []
pair_of n None = []

-- the keys that leaf j of a tree whose first leaf is b has, by rising number of the node
unfoldable pub pairs : ℕ → Term → ℕ → Keys → List Pair
pairs b (Leaf v) j [] = []
pairs b (Leaf v) j (o ∷ ks) = pair_of (2 * j) o
pairs b (Branch c l r) j [] = []
pairs b (Branch c l r) j (o ∷ ks) =
    if nat_lt j (b + width l) then pairs b l j ks ++ pair_of (2 * b + size l) o
    else pair_of (2 * b + size l) o ++ pairs (b + width l) r j ks

-- the key with a number, if there is one
unfoldable pub find_key : ℕ → List Pair → Option (List ℕ)
find_key n [] = None
find_key n (p ∷ ps) = if n == p.node then Some p.key else find_key n ps

unfoldable pub AllAfter : ℕ → List Pair → Type 0
AllAfter n [] = Unit {0}
AllAfter n (p ∷ ps) = (n < p.node) × AllAfter n ps

unfoldable pub IsInOrder : List Pair → Type 0
IsInOrder [] = Unit {0}
IsInOrder (p ∷ ps) = AllAfter p.node ps × IsInOrder ps
