-- Small trees, worked out.
use Rattle.std.specs.Prelude.{◌≡◌, ℕ, List, [], ◌∷◌, map, Some, None}
use Rattle.mls_leaf.specs.declared.leaf.LeafNode.{LeafNode}
use Rattle.mls_suite.specs.Crypto.{Crypto}
use Rattle.mls_tree_model.specs.Term.{Term, Branch}
use Rattle.mls_tree_model.specs.Way.{way, filtered_path}
use Rattle.mls_tree_model.specs.Examples.{member, over, listing_these}
use Rattle.mls_treekem_model.specs.Chain.{next_secret, node_key}
use Rattle.mls_treekem_model.specs.Make.{secret_above, made_keys}
use Rattle.mls_treekem_model.specs.Seal.{targets}
use Rattle.mls_treekem_model.specs.Pairs.{Pair, pairs}
use Rattle.mls_treekem_model.specs.Laws.{shared_keys}

-- a path of no nodes: the commit secret is the first secret
abbrev pub SecretOfOne : Type 0
SecretOfOne = (x : LeafNode) (start : List ℕ) → secret_above (way 0 (member x) 0) start ≡ start

-- four members and no parent that isn't blank
abbrev pub four : LeafNode → LeafNode → LeafNode → LeafNode → Term
four x y z w = over (over (member x) (member y)) (over (member z) (member w))

-- there a path of leaf 1 has the nodes 1 and 3, and the commit secret is two steps on
abbrev pub SecretOfFour : Type 0
SecretOfFour = (x y z w : LeafNode) (start : List ℕ) → secret_above (way 0 (four x y z w) 1) start ≡ next_secret (next_secret start)

abbrev pub PathOfFour : Type 0
PathOfFour = (x y z w : LeafNode) → filtered_path 0 (four x y z w) 1 ≡ 1 ∷ 3 ∷ []

-- node 3's secret is sealed to the nodes 4 and 6, node 1's to node 0
abbrev pub TargetsOfFour : Type 0
TargetsOfFour = (x y z w : LeafNode) → map (targets []) (way 0 (four x y z w) 1) ≡ (4 ∷ 6 ∷ []) ∷ (0 ∷ []) ∷ []

abbrev pub pair : ℕ → List ℕ → Pair
pair n k = record { node = n; key = k }

-- afterwards leaf 1 has the keys of the nodes 1, 2 and 3
abbrev pub KeysOfMaker : Type 0
KeysOfMaker = (c : Crypto) (x y z w : LeafNode) (start sk : List ℕ) →
    pairs 0 (four x y z w) 1 (made_keys c (way 0 (four x y z w) 1) start sk) ≡ pair 1 (node_key c start) ∷ pair 2 sk ∷ pair 3 (node_key c (next_secret start)) ∷ []

-- leaf 0, which had its own alone, those of 0, 1 and 3
abbrev pub KeysBeside : Type 0
KeysBeside = (c : Crypto) (x y z w : LeafNode) (start sk own : List ℕ) →
    pairs 0 (four x y z w) 0 (shared_keys (way 0 (four x y z w) 1) 0 (made_keys c (way 0 (four x y z w) 1) start sk) (None ∷ None ∷ Some own ∷ []))
    ≡ pair 0 own ∷ pair 1 (node_key c start) ∷ pair 3 (node_key c (next_secret start)) ∷ []

-- and leaf 3 those of 3 and 6
abbrev pub KeysAcross : Type 0
KeysAcross = (c : Crypto) (x y z w : LeafNode) (start sk own : List ℕ) →
    pairs 0 (four x y z w) 3 (shared_keys (way 0 (four x y z w) 1) 3 (made_keys c (way 0 (four x y z w) 1) start sk) (None ∷ None ∷ Some own ∷ []))
    ≡ pair 3 (node_key c (next_secret start)) ∷ pair 6 own ∷ []

-- where leaf 3 was just added and node 5 lists it, node 3's secret is sealed to node 5 alone
abbrev pub TargetsBesideAdded : Type 0
TargetsBesideAdded = (x y z w : LeafNode) (key hash : List ℕ) →
    map (targets (3 ∷ [])) (way 0 (over (over (member x) (member y)) (Branch (listing_these key hash (3 ∷ [])) (member z) (member w))) 0) ≡ (5 ∷ []) ∷ (2 ∷ []) ∷ []
