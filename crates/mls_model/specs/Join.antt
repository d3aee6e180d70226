-- What a candidate does with a Welcome (RFC 9420, 12.4.3.1): the first check that fails, by its number, or the new
-- member and the GroupInfo that was opened. Whether the candidate is in a group of this id already, and whether it
-- supports the group's extensions, which the standard asks too (12.4.3.1 and 13.4), is for the caller to know.
use Rattle.std.specs.Prelude.{ℕ, Bool, false, not, List, [], codes, find, Option, Some, None, Result, Ok}
use Rattle.std.specs.Str.{bytes_eq}
use Rattle.mls_wire.specs.Checks.{Passed, require, require_some, ◌>>◌}
use Rattle.mls_wire.specs.Reading.{◌>>=◌}
use Rattle.mls_leaf.specs.Leaf.{leaf_node}
use Rattle.mls_leaf.specs.declared.leaf.LeafNode.{LeafNode}
use Rattle.mls_types.specs.GroupContext.{group_context}
use Rattle.mls_types.specs.GroupInfo.{group_info_tbs}
use Rattle.mls_types.specs.declared.group_context.GroupContext.{GroupContext}
use Rattle.mls_types.specs.declared.group_info.GroupInfo.{GroupInfo}
use Rattle.mls_suite.specs.Crypto.{Crypto}
use Rattle.mls_suite.specs.Labels.{verify_with_label}
use Rattle.mls_tree_model.specs.Term.{Term, leaf_of}
use Rattle.mls_tree_model.specs.Arrays.{from_nodes}
use Rattle.mls_tree_model.specs.Good.{tree_checks}
use Rattle.mls_tree_model.specs.Hashes.{tree_hash}
use Rattle.mls_tree_model.specs.Keys.{members}
use Rattle.mls_tree.specs.Rules.{rules_of}
use Rattle.mls_tree.specs.Tree.{max_leaves}
use Rattle.mls_treekem_model.specs.Join.{take_answer, has_due}
use Rattle.mls_treekem_model.specs.Keys.{PrivateKeys}
use Rattle.mls_schedule.specs.Epoch.{epoch_secret, confirmation_tag}
use Rattle.mls_schedule.specs.Transcript.{interim_hash}
use Rattle.mls_model.specs.Member.{Member, with_keys}
use Rattle.mls_model.specs.Candidate.{Candidate}
use Rattle.mls_model.specs.OpenedWelcome.{Opened, opened_welcome}

-- ---- the group that it tells of

-- the tree of a GroupInfo: `NoTree` (76) there is none, `TreeShape` (20) and `TreeFull` (21), `TreeHashWrong` (77),
-- then the checks of a whole tree (RFC 9420, 12.4.3.1 and 12.4.3.3)
unfoldable pub joined_tree : Crypto → GroupInfo → Result Term ℕ
joined_tree c info = do
  nodes ← require_some 76 info.ratchet_tree
  t ← from_nodes max_leaves nodes
  require 77 (bytes_eq info.group_context.tree_hash (tree_hash 0 t))
  tree_checks (rules_of c info.group_context.group_id) t
  Ok t

-- the checks of a GroupInfo's signer: `SignerWrong` (78) it is no member, or the candidate itself, whose way would
-- never part from the signer's (of this the standard says nothing); `GroupInfoSignature` (79) its signature (RFC 9420,
-- 12.4.3.1)
unfoldable pub signer_checks : Crypto → Candidate → GroupInfo → Term → Result Passed ℕ
signer_checks c k info t = do
  signer ← require_some 78 (leaf_of t info.signer)
  require 78 (not (bytes_eq signer.signature_key k.offered.leaf_node.signature_key))
  require 79 (verify_with_label c signer.signature_key (codes "GroupInfoTBS") (group_info_tbs info) info.signature)

-- whether two leaves are one: both have one spelling
abbrev pub is_same_leaf : LeafNode → LeafNode → Bool
is_same_leaf x y = bytes_eq (leaf_node.spell x) (leaf_node.spell y)

-- the first leaf that is the candidate's (RFC 9420, 12.4.3.1)
unfoldable pub place_of : LeafNode → Term → Option (ℕ × LeafNode)
place_of leaf t = find (λ (x : ℕ × LeafNode). is_same_leaf x.1 leaf) (members 0 t)

-- the joiner's keys (RFC 9420, 12.4.3.1): with a path secret those that the secret gives, else its leaf's alone;
-- `PathKeyMismatch` (34) a key differs, and `KeyMissing` (35) one that is due is missing, which the standard doesn't
-- ask
unfoldable pub joined_keys : Crypto → Term → ℕ → PrivateKeys → Option (List ℕ) → Result PrivateKeys ℕ
joined_keys c t signer alone None = require 35 (has_due t alone) >> Ok alone
joined_keys c t signer alone (Some secret) =
    take_answer c t signer alone.leaf alone.own secret >>= λ climb. Ok (with_keys alone climb.keys)

-- ---- the whole

-- a new member, and the bytes of the GroupInfo that it opened
pub record JoinedMember : Type 0 where
  pub member : Member
  pub info : List ℕ

-- the new member with these keys in this tree: `BadConfirmationTag` (65) the confirmation tag isn't that of the epoch
-- (RFC 9420, 12.4.3.1)
unfoldable pub enter_group : Candidate → Opened → Term → PrivateKeys → Result JoinedMember ℕ
enter_group k o t keys = do
  let context : GroupContext = o.info.group_context
  let epoch = epoch_secret o.joiner (group_context.spell context)
  require 65 (bytes_eq o.info.confirmation_tag (confirmation_tag epoch context.confirmed_transcript_hash))
  Ok (record {
    member = record {
      gone = false;
      public = record {
        context = context;
        tree = t;
        interim = interim_hash context.confirmed_transcript_hash o.info.confirmation_tag;
      };
      epoch_secret = epoch;
      keys = keys;
      signing = k.signing;
      kept = [];
      pending = None;
    };
    info = o.bytes;
  })

-- the new member of an opened Welcome (RFC 9420, 12.4.3.1): the checks of tree and signer, `NotInTree` (80) no leaf is
-- the candidate's, the checks of its keys, and of the confirmation tag
unfoldable pub member_of : Crypto → Candidate → Opened → Result JoinedMember ℕ
member_of c k o = do
  t ← joined_tree c o.info
  signer_checks c k o.info t
  place ← require_some 80 (place_of k.offered.leaf_node t)
  keys ← joined_keys c t o.info.signer (record { leaf = place.0; own = k.leaf; above = [] }) o.path_secret
  enter_group k o t keys

-- what a candidate does with any bytes: it opens the Welcome, and becomes the new member (RFC 9420, 12.4.3.1)
unfoldable pub join_verdict : Crypto → Candidate → List ℕ → Result JoinedMember ℕ
join_verdict c k bytes = opened_welcome c k bytes >>= λ o. member_of c k o
