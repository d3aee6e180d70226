-- The laws of exchanges: what is sealed arrives, what opens is genuine, and no key serves twice (RFC 9420, 6.3 and 9).
use Rattle.std.specs.Prelude.{◌≡◌, ℕ, ◌+◌, ◌<◌, ◌≤◌, ◌^◌, true, false, List, [], ◌∷◌, codes, Some, Result, Ok, Err}
use Rattle.mls_wire.specs.Whole.{whole}
use Rattle.mls_leaf.specs.Limits.{input_limit}
use Rattle.mls_leaf.specs.declared.leaf.LeafNode.{LeafNode}
use Rattle.mls_suite.specs.Crypto.{Crypto}
use Rattle.mls_suite.specs.Labels.{verify_with_label}
use Rattle.mls_treemath.specs.Paths.{leaf_path}
use Rattle.mls_secret_tree.specs.Secrets.{application_key}
use Rattle.mls_secret_tree.specs.Ratchet.{window}
use Rattle.mls_secret_tree.specs.Held.{next_below}
use Rattle.mls_secret_tree.specs.SecretTree.{Drafted, draft_key, next_generation}
use Rattle.mls_secret_tree.specs.Holding.{holds, IsTreeOf}
use Rattle.mls_secret_tree.specs.Laws.{LosesOne}
use Rattle.mls_private_message.specs.declared.private_message.PrivateMessage.{PrivateMessage}
use Rattle.mls_private_message.specs.declared.sender_data.SenderData.{SenderData}
use Rattle.mls_private_message.specs.PrivateContent.{private_content_at}
use Rattle.mls_private_message.specs.PrivateMessage.{private_message}
use Rattle.mls_private_message.specs.Sealing.{open_sender_data, open_content}
use Rattle.mls_private_message.specs.Signing.{private_content_tbs}
use Rattle.mls_exchange.specs.declared.open.Opened.{Opened}
use Rattle.mls_exchange.specs.State.{State, member_at}
use Rattle.mls_exchange.specs.Contents.{application_content}
use Rattle.mls_exchange.specs.Sealing.{seal_message}
use Rattle.mls_exchange.specs.Opening.{open_message}

-- ---- one epoch

-- the numbers have as many bits as code gives them
pub record IsInRange (s : State) : Type 0 where
  pub epoch : s.epoch < 2 ^ 64
  pub leaf : s.leaf < 2 ^ 32

-- one place, one sender data secret, one ratchet tree, and secret trees of one encryption secret, whichever of their
-- keys were used
pub record OfOneEpoch (encryption_secret : List ℕ) (s r : State) : Type 0 where
  pub group_id : r.group_id ≡ s.group_id
  pub epoch : r.epoch ≡ s.epoch
  pub context : r.context ≡ s.context
  pub sender_data_secret : r.sender_data_secret ≡ s.sender_data_secret
  pub nodes : r.nodes ≡ s.nodes
  pub height : r.keys.height ≡ s.keys.height
  pub of : IsTreeOf encryption_secret s.keys
  pub other_of : IsTreeOf encryption_secret r.keys

-- the own leaf stands in the tree, with the public key of the own signature key
pub record IsOwnLeaf (c : Crypto) (s : State) (leaf : LeafNode) : Type 0 where
  pub stands : member_at s.nodes s.leaf ≡ Some leaf
  pub signature_key : leaf.signature_key ≡ c.sig_public s.signing

-- ---- the use of a key

-- the key of a leaf in a generation was used: it is gone, with all that it is derived from; the other keys within the
-- window are not, no other key can be derived that couldn't before, and nothing else changed (RFC 9420, 9.2)
pub record UsesKey (s : State) (leaf generation : ℕ) (after : State) : Type 0 where
  pub share : (encryption_secret : List ℕ) → IsTreeOf encryption_secret s.keys
      → OfOneEpoch encryption_secret s after
  pub own_leaf : after.leaf ≡ s.leaf
  pub own_key : after.signing ≡ s.signing
  pub keys : LosesOne s.keys leaf generation after.keys

-- sealing uses the own key of the next generation
abbrev pub SealingUsesKey : Crypto → Type 0
SealingUsesKey c =
    (encryption_secret : List ℕ) (s after : State) (application_data authenticated_data : List ℕ)
    (padding : ℕ) (seed bytes : List ℕ)
    → IsTreeOf encryption_secret s.keys
    → seal_message c s application_data authenticated_data padding seed ≡ Ok (bytes, after)
    → (generation : ℕ) × (next_generation s.keys s.leaf ≡ Some generation)
    × UsesKey s s.leaf generation after

-- opening uses the key of the sender in the message's generation
abbrev pub OpeningUsesKey : Crypto → Type 0
OpeningUsesKey c = (encryption_secret : List ℕ) (s after : State) (bytes : List ℕ) (o : Opened)
    → IsTreeOf encryption_secret s.keys → open_message c s bytes ≡ Ok (o, after)
    → UsesKey s o.leaf_index o.generation after

-- ---- what opens is genuine

-- what the sender of opened data signed: a FramedContentTBS of the state's epoch (RFC 9420, 6.1)
abbrev pub opened_text : State → Opened → List ℕ
opened_text s o =
    private_content_tbs
    (application_content s.group_id s.epoch o.leaf_index o.authenticated_data o.application_data)
    s.context

-- the message is one of the state's group and epoch; its sender data says leaf and generation; its content opens under
-- the key of that leaf in that generation, which the encryption secret gives; the content says the data, and its
-- signature verifies by the leaf of that member (RFC 9420, 6.1 and 6.3)
pub record IsGenuine (c : Crypto) (s : State) (bytes : List ℕ) (o : Opened) : Type 0 where
  pub message : PrivateMessage
  pub sender : SenderData
  pub leaf : LeafNode
  pub draft : Drafted
  pub content : List ℕ
  pub signature : List ℕ
  pub is_read : whole private_message input_limit bytes ≡ Ok message
  pub in_group : message.group_id ≡ s.group_id
  pub in_epoch : message.epoch ≡ s.epoch
  pub is_sent : open_sender_data c s.sender_data_secret message ≡ Ok sender
  pub from_leaf : o.leaf_index ≡ sender.leaf_index
  pub in_generation : o.generation ≡ sender.generation
  pub stands : member_at s.nodes o.leaf_index ≡ Some leaf
  pub identity : o.identity ≡ leaf.credential.identity
  pub drafted : draft_key s.keys o.leaf_index o.generation ≡ Ok draft
  pub derived : (encryption_secret : List ℕ) → IsTreeOf encryption_secret s.keys
      → draft.key ≡ application_key encryption_secret s.keys.height o.leaf_index o.generation
  pub opens : open_content c draft.key sender.reuse_guard message ≡ Ok content
  pub says : private_content_at content ≡ Ok (o.application_data, signature)
  pub adds : o.authenticated_data ≡ message.authenticated_data
  pub verifies : verify_with_label c leaf.signature_key (codes "FramedContentTBS")
      (opened_text s o) signature ≡ true

-- each message that opens is genuine
abbrev pub OpenedIsGenuine : Crypto → Type 0
OpenedIsGenuine c = (s after : State) (bytes : List ℕ) (o : Opened)
    → open_message c s bytes ≡ Ok (o, after) → IsGenuine c s bytes o

-- ---- what is sealed arrives

-- the key of a leaf in a generation can still be derived, within the window
pub record CanOpen (s : State) (leaf generation : ℕ) : Type 0 where
  pub held : holds s.keys leaf generation ≡ true
  pub near : generation ≤ next_below s.keys.root (leaf_path s.keys.height leaf) + window

-- what a member of a leaf sealed opens as that, and uses that key
pub record Arrives (c : Crypto) (s r : State) (leaf : LeafNode) (generation : ℕ)
    (application_data authenticated_data bytes : List ℕ) : Type 0 where
  pub after : State
  pub opens : open_message c r bytes ≡ Ok (
    record {
      leaf_index = s.leaf;
      identity = leaf.credential.identity;
      generation = generation;
      application_data = application_data;
      authenticated_data = authenticated_data;
    },
    after,
  )
  pub uses : UsesKey r s.leaf generation after

-- what a member seals opens at each state that shares its epoch, whatever that opened and sealed before, as long as the
-- key of the message's generation can be derived there within the window
abbrev pub SealedArrives : Crypto → Type 0
SealedArrives c =
    (encryption_secret : List ℕ) (s after r : State) (leaf : LeafNode)
    (application_data authenticated_data : List ℕ) (padding : ℕ)
    (seed bytes : List ℕ) (generation : ℕ)
    → IsInRange s → OfOneEpoch encryption_secret s r → IsOwnLeaf c s leaf
    → seal_message c s application_data authenticated_data padding seed ≡ Ok (bytes, after)
    → next_generation s.keys s.leaf ≡ Some generation → CanOpen r s.leaf generation
    → Arrives c s r leaf generation application_data authenticated_data bytes

-- ---- no key serves twice

-- a call of an exchange: sealing of data, authenticated data, padding and a seed, or opening of any bytes
pub data Call : Type 0 where
  Seal : List ℕ → List ℕ → ℕ → List ℕ → Call
  Open : List ℕ → Call

-- the state after an answer, where a refusal changes nothing
abbrev pub kept_state : {A : Type 0} → State → Result (A × State) ℕ → State
kept_state s (Ok x) = x.1
kept_state s (Err n) = s

-- the state that a call leaves
abbrev pub after_call : Crypto → State → Call → State
after_call c s (Seal application_data authenticated_data padding seed) =
    kept_state s (seal_message c s application_data authenticated_data padding seed)
after_call c s (Open bytes) = kept_state s (open_message c s bytes)

-- the state that calls leave, one after another
abbrev pub after_calls : Crypto → State → List Call → State
after_calls c s [] = s
after_calls c s (call ∷ calls) = after_calls c (after_call c s call) calls

-- whatever is called, the epoch stays, and the own leaf and signature key
pub record StaysInEpoch (encryption_secret : List ℕ) (s after : State) : Type 0 where
  pub share : OfOneEpoch encryption_secret s after
  pub own_leaf : after.leaf ≡ s.leaf
  pub own_key : after.signing ≡ s.signing

-- so it is of all calls
abbrev pub CallsStayInEpoch : Crypto → Type 0
CallsStayInEpoch c = (encryption_secret : List ℕ) (s : State) (calls : List Call)
    → IsTreeOf encryption_secret s.keys
    → StaysInEpoch encryption_secret s (after_calls c s calls)

-- a state holds nothing that the key of a leaf in a generation is derived from
abbrev pub IsGone : State → ℕ → ℕ → Type 0
IsGone s leaf generation = holds s.keys leaf generation ≡ false

-- whatever is called later, a key that is gone stays so, and no message opens under it
pub record StaysGone (c : Crypto) (s : State) (leaf generation : ℕ) : Type 0 where
  pub gone : IsGone s leaf generation
  pub never_opens : (bytes : List ℕ) (o : Opened) (after : State)
      → open_message c s bytes ≡ Ok (o, after) → o.leaf_index ≡ leaf → o.generation ≡ generation → ⊥
  pub never_seals : (application_data authenticated_data : List ℕ) (padding : ℕ)
      (seed bytes : List ℕ) (after : State)
      → seal_message c s application_data authenticated_data padding seed ≡ Ok (bytes, after)
      → s.leaf ≡ leaf → next_generation s.keys s.leaf ≡ Some generation → ⊥

-- so it is of each key that is gone
abbrev pub GoneStaysGone : Crypto → Type 0
GoneStaysGone c = (encryption_secret : List ℕ) (s : State) (calls : List Call) (leaf generation : ℕ)
    → IsTreeOf encryption_secret s.keys → IsGone s leaf generation
    → StaysGone c (after_calls c s calls) leaf generation
