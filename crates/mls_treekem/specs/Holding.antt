-- Whether a member's private keys are exactly those that are due, as code goes over the nodes.
use Rattle.std.specs.Prelude.{◌≡◌, ℕ, zero, suc, ◌+◌, ◌^◌, nat_lt, if◌then◌else◌, Bool, true, false, List, [], ◌∷◌, Option, Some}
use Rattle.mls_leaf.specs.declared.leaf.LeafNode.{LeafNode}
use Rattle.mls_suite.specs.Crypto.{Crypto}
use Rattle.mls_tree_model.specs.Term.{Term, leaf_of}
use Rattle.mls_tree_model.specs.Way.{Step}
use Rattle.mls_tree.specs.Tree.{Tree, term}
use Rattle.mls_treekem_model.specs.Holding.{holds_own, holds_along, holds_exact}
use Rattle.mls_treekem_model.specs.Keys.{PrivateKeys, all_keys, keys_on_way}
use Rattle.mls_treekem.specs.declared.hold.HeldKeys.{HeldKeys}
use Rattle.mls_treekem.specs.declared.hold.HeldKeys.TheVariants.{Exact, Other}
use Rattle.mls_treekem.specs.Place.{places_from, steps_at}

-- whether keys were told to be exactly those that are due
abbrev pub are_exact : HeldKeys → Bool
are_exact Exact = true
are_exact Other = false

-- it tells whether keys are exactly those that are due in a tree (RFC 9420, 7.5)
abbrev pub TellsExact : Crypto → Term → PrivateKeys → HeldKeys → Type 0
TellsExact c t keys held = are_exact held ≡ holds_exact c t keys

-- the leaf that the way to leaf j ends at, in a perfect tree of height h whose first leaf is b
unfoldable pub last_on_way : ℕ → ℕ → ℕ → ℕ
last_on_way zero b j = b
last_on_way (suc h) b j = if nat_lt j (b + 2 ^ h) then last_on_way h b j else last_on_way h (b + 2 ^ h) j

-- whether a key is the private key of a leaf
abbrev pub is_own : Crypto → Option LeafNode → List ℕ → Bool
is_own c x k = holds_own c x (Some k ∷ [])

-- whether what a member holds along a way is what is due
abbrev pub holds_on : Crypto → PrivateKeys → List Step → Option LeafNode → Bool
holds_on c p ss x = holds_along c p.leaf ss x (keys_on_way ss (all_keys p))

-- and in a subtree of height h, whose first leaf is b
abbrev pub holds_below : Crypto → ℕ → ℕ → Tree → PrivateKeys → Bool
holds_below c h b tree p =
    holds_on c p (steps_at (term tree) (places_from h b p.leaf)) (leaf_of (term tree) (last_on_way h b p.leaf))
