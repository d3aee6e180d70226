-- Where a ratchet tree first breaks a rule that is asked of each member or of each node alone (RFC 9420, 7.3).
use Rattle.std.specs.Prelude.{◌≡◌, ℕ, ◌+◌, ◌%◌, ◌==◌, ◌<◌, take, slice_index_or, Bool, true, false, List, Option, None, MatchOption}
use Rattle.std.specs.List.{list_all}
use Rattle.mls_leaf.specs.declared.node.Node.{Node}
use Rattle.mls_checks.specs.Leaf.{is_capable, is_signed}
use Rattle.mls_suite.specs.Crypto.{Crypto}
use Rattle.mls_tree_array.specs.CellKeys.{cell_keys}
use Rattle.mls_tree_index.specs.Keys.{keys_of}
use Rattle.mls_tree_index.specs.declared.kind.KeyKind.{KeyKind}
use Rattle.mls_tree_model.specs.Arrays.{may_stand}
use Rattle.mls_tree_model.specs.Keys.{passes}
use Rattle.mls_tree_model.specs.Sets.{is_distinct, same_bytes}
use Rattle.mls_tree_model.specs.Term.{Term, leaf_of}

-- each number below n passes a test
abbrev pub AllBelow : (ℕ → Bool) → ℕ → Type 0
AllBelow test n = (j : ℕ) → j < n → test j ≡ true

-- the first number below n that fails a test: it fails, and none before it does; or none below n fails
abbrev pub IsFirstFailing : (ℕ → Bool) → ℕ → Option ℕ → Type 0
IsFirstFailing test n found =
    MatchOption found (AllBelow test n) (λ i. (i < n) × (test i ≡ false) × AllBelow test i)

-- ---- the tests, by the number of a leaf or of a node

-- `LeafSignature` (51): the signature of leaf i is its own, where it isn't blank
abbrev pub leaf_is_signed : Crypto → List ℕ → Term → ℕ → Bool
leaf_is_signed c group t i = passes (is_signed c group) i (leaf_of t i)

-- `LeafCapability` (52): leaf i lists version 1, the suite and credential 1, where it isn't blank
abbrev pub leaf_is_capable : ℕ → Term → ℕ → Bool
leaf_is_capable suite t i = passes (λ j v. is_capable suite v) i (leaf_of t i)

-- `BadKey` (36): the encryption key of node x, of those that are sent, is fit for sealing, where it isn't blank
abbrev pub node_is_fit : Crypto → List (Option Node) → ℕ → Bool
node_is_fit c xs x = list_all c.key_ok (cell_keys (slice_index_or xs x None))

-- `TreeShape` (20): node x, of those that are sent, is a leaf at an even place or a parent at an odd one, where it
-- isn't blank
abbrev pub node_stands : List (Option Node) → ℕ → Bool
node_stands xs x = may_stand (x % 2 == 0) (slice_index_or xs x None)

-- whether a rule of the whole tree holds: it does exactly when no number was found
abbrev pub TellsRule : Bool → Option ℕ → Type 0
TellsRule holds found = MatchOption found (holds ≡ true) (λ _. holds ≡ false)

-- `KeyRepeated` (25) and `ClientRepeated` (26): no two of the nodes up to node x, of those that are sent, have one key
-- of this kind
abbrev pub has_new_key : KeyKind → List (Option Node) → ℕ → Bool
has_new_key kind xs x = is_distinct same_bytes (keys_of kind (take (x + 1) xs))
