-- What a good tree is.
use Rattle.std.specs.Prelude.{◌≡◌, ℕ, nat_le, Bool, true, List, ◌∷◌, ◌++◌, Result}
use Rattle.std.specs.List.{list_all}
use Rattle.mls_wire.specs.Checks.{Passed, require, ◌>>◌}
use Rattle.mls_leaf.specs.declared.leaf.LeafNode.{LeafNode}
use Rattle.mls_tree_model.specs.Term.{Term, width, height, is_perfect, is_full_width}
use Rattle.mls_tree_model.specs.Sets.{same_bytes, is_distinct}
use Rattle.mls_tree_model.specs.Lists.{all_parents, lists_here, rises_here}
use Rattle.mls_tree_model.specs.Hashes.{is_parent_hash_valid}
use Rattle.mls_tree_model.specs.Keys.{encryption_keys, signature_keys, all_members}

-- what a group asks of its tree beyond the tree itself: the most leaves, and tests of a leaf by its number and of a key
pub record Rules : Type 0 where
  pub limit : ℕ
  -- whether a leaf's signature verifies (`LeafSignature`, 51)
  pub is_signed : ℕ → LeafNode → Bool
  -- whether a leaf has the capabilities that the group needs (`LeafCapability`, 52)
  pub is_capable : LeafNode → Bool
  -- whether a key is fit for sealing (`BadKey`, 36)
  pub is_fit : List ℕ → Bool

-- ---- the checks of a whole tree, each a test

-- `TreeShape` (20): the right half has a member, so that the tree is no larger than its members need (RFC 9420, 7.7)
unfoldable pub has_good_shape : Term → Bool
has_good_shape t = is_full_width t

-- `TreeFull` (21): the tree has no more leaves than the limit, which is this project's choice
unfoldable pub is_within : ℕ → Term → Bool
is_within limit t = nat_le (width t) limit

-- `UnmergedWrong` (23): each unmerged leaf is a member below its parent, and each parent between that isn't blank lists
-- it too (RFC 9420, 12.4.3.1)
unfoldable pub has_good_lists : Term → Bool
has_good_lists t = all_parents lists_here 0 t

-- `ParentHashWrong` (24): each parent is parent-hash valid (RFC 9420, 7.9.2)
unfoldable pub has_good_hashes : Term → Bool
has_good_hashes t = all_parents is_parent_hash_valid 0 t

-- `KeyRepeated` (25): no two nodes have one encryption key (RFC 9420, 7.3 and 12.4.3.1)
unfoldable pub has_distinct_keys : Term → Bool
has_distinct_keys t = is_distinct same_bytes (encryption_keys t)

-- `ClientRepeated` (26): no two members have one signature key (RFC 9420, 7.3)
unfoldable pub has_distinct_clients : Term → Bool
has_distinct_clients t = is_distinct same_bytes (signature_keys t)

-- `LeafSignature` (51): each leaf's signature verifies (RFC 9420, 7.3)
unfoldable pub is_all_signed : Rules → Term → Bool
is_all_signed rules t = all_members rules.is_signed 0 t

-- `LeafCapability` (52): each leaf has the capabilities that the group needs (RFC 9420, 7.3)
unfoldable pub is_all_capable : Rules → Term → Bool
is_all_capable rules t = all_members (λ i x. rules.is_capable x) 0 t

-- `BadKey` (36): each encryption key is fit for sealing (RFC 9180, 7.1.4)
unfoldable pub is_all_fit : Rules → Term → Bool
is_all_fit rules t = list_all rules.is_fit (encryption_keys t)

-- the checks that a tree of good shape still has to pass, in their order (RFC 9420, 12.4.3.1)
unfoldable pub tree_checks : Rules → Term → Result Passed ℕ
tree_checks rules t =
    require 23 (has_good_lists t)
    >> (require 24 (has_good_hashes t)
    >> (require 25 (has_distinct_keys t)
    >> (require 26 (has_distinct_clients t)
    >> (require 51 (is_all_signed rules t)
    >> (require 52 (is_all_capable rules t)
    >> require 36 (is_all_fit rules t))))))

-- a good tree: all leaves are at one depth, and it passes the checks that a joiner makes (RFC 9420, 12.4.3.1)
pub record IsGood (rules : Rules) (t : Term) : Type 0 where
  -- as every tree of a group: all leaves are at one depth, and each list of unmerged leaves rises
  pub perfect : is_perfect (height t) t ≡ true
  pub rising : all_parents rises_here 0 t ≡ true
  -- the checks, from `TreeShape` (20) to `BadKey` (36)
  pub shape : has_good_shape t ≡ true
  pub within : is_within rules.limit t ≡ true
  pub lists : has_good_lists t ≡ true
  pub hashes : has_good_hashes t ≡ true
  pub keys : has_distinct_keys t ≡ true
  pub clients : has_distinct_clients t ≡ true
  pub signed : is_all_signed rules t ≡ true
  pub capable : is_all_capable rules t ≡ true
  pub fit : is_all_fit rules t ≡ true

-- a tree that is good but that keys (`KeyRepeated`, 25) and clients (`ClientRepeated`, 26) may repeat in it, as between
-- two proposals of one commit
pub record IsSound (rules : Rules) (t : Term) : Type 0 where
  pub perfect : is_perfect (height t) t ≡ true
  pub rising : all_parents rises_here 0 t ≡ true
  pub shape : has_good_shape t ≡ true
  pub within : is_within rules.limit t ≡ true
  pub lists : has_good_lists t ≡ true
  pub hashes : has_good_hashes t ≡ true
  pub signed : is_all_signed rules t ≡ true
  pub capable : is_all_capable rules t ≡ true
  pub fit : is_all_fit rules t ≡ true

-- a new leaf for place i, and new parents' keys, pass the checks that are made of each alone
pub record AreFit (rules : Rules) (i : ℕ) (x : LeafNode) (ks : List (List ℕ)) : Type 0 where
  pub signed : rules.is_signed i x ≡ true
  pub capable : rules.is_capable x ≡ true
  pub fit : list_all rules.is_fit (x.encryption_key ∷ ks) ≡ true

-- a new leaf for place i of a tree, and new parents' keys, pass the checks that are made of each alone; none of these
-- keys, nor the client, stands in the tree or twice
pub record AreNew (rules : Rules) (i : ℕ) (x : LeafNode) (ks : List (List ℕ)) (t : Term) : Type 0 where
  pub keys : is_distinct same_bytes (x.encryption_key ∷ (ks ++ encryption_keys t)) ≡ true
  pub clients : is_distinct same_bytes (x.signature_key ∷ signature_keys t) ≡ true
  pub signed : rules.is_signed i x ≡ true
  pub capable : rules.is_capable x ≡ true
  pub fit : list_all rules.is_fit (x.encryption_key ∷ ks) ≡ true
