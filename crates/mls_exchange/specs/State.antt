-- What application messages of one epoch are sealed and opened with (RFC 9420, 6.3 and 9).
use Rattle.std.specs.Prelude.{ℕ, ◌*◌, List, slice_index_or, Option, None}
use Rattle.mls_leaf.specs.declared.leaf.LeafNode.{LeafNode}
use Rattle.mls_leaf.specs.declared.node.Node.{Node}
use Rattle.mls_tree_model.specs.Arrays.{leaf_in}
use Rattle.mls_secret_tree.specs.SecretTree.{Tree, Drafted, keep_draft}

-- where messages belong, what their keys are derived from, the ratchet tree, and the own leaf
pub record State : Type 0 where
  -- where its messages belong
  pub group_id : List ℕ
  pub epoch : ℕ
  -- the bytes of the epoch's GroupContext
  pub context : List ℕ
  -- what keys are derived from (RFC 9420, 8 and 9)
  pub sender_data_secret : List ℕ
  pub keys : Tree
  -- the nodes of the ratchet tree, in order
  pub nodes : List (Option Node)
  -- the own leaf, and the private key of its signatures
  pub leaf : ℕ
  pub signing : List ℕ

-- the leaf of a member: none where it is blank or outside the tree
unfoldable pub member_at : List (Option Node) → ℕ → Option LeafNode
member_at nodes leaf = leaf_in (slice_index_or nodes (2 * leaf) None)

-- the state once the key of a draft was used: what the key was derived from is replaced (RFC 9420, 9.2)
unfoldable pub after_draft : State → Drafted → State
after_draft s d = record s { keys = keep_draft s.keys d }
