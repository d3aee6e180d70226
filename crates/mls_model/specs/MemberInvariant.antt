-- What holds of each member of a run and of each candidate, whatever bytes they met.
use Rattle.std.specs.Prelude.{◌≡◌, ◌≢◌, ℕ, ◌-◌, ◌^◌, nat_lt, true, List, Option, Some, None, Ok, IsSome}
use Rattle.std.specs.List.{AllByRecursion}
use Rattle.mls_wire.specs.Checks.{passed}
use Rattle.mls_leaf.specs.KeyPackage.{key_package}
use Rattle.mls_leaf.specs.Node.{node}
use Rattle.mls_leaf.specs.declared.leaf.LeafNode.{LeafNode}
use Rattle.mls_leaf.specs.declared.node.Node.{Node}
use Rattle.mls_leaf.specs.declared.proposal.Proposal.{Proposal}
use Rattle.mls_leaf.specs.declared.proposal.Proposal.TheVariants as proposal
use Rattle.mls_types.specs.GroupContext.{group_context}
use Rattle.mls_types.specs.Message.{mls_message}
use Rattle.mls_types.specs.SignedParts.{framed_content_of}
use Rattle.mls_types.specs.declared.commit.Commit.{Commit}
use Rattle.mls_types.specs.declared.message.MlsMessage.TheVariants as message
use Rattle.mls_types.specs.declared.public_message.PublicMessage.{PublicMessage}
use Rattle.mls_types.specs.declared.signed.SignedBody.TheVariants as body
use Rattle.mls_suite.specs.Crypto.{Crypto}
use Rattle.mls_checks.specs.Checks.{key_package_checks}
use Rattle.mls_tree_model.specs.Term.{leaf_of}
use Rattle.mls_tree_model.specs.Arrays.{in_order}
use Rattle.mls_tree_model.specs.Good.{IsGood}
use Rattle.mls_tree_model.specs.Hashes.{tree_hash}
use Rattle.mls_tree.specs.Rules.{rules_of}
use Rattle.mls_schedule.specs.Epoch.{confirmation_tag}
use Rattle.mls_treekem_model.specs.Keys.{HasExact}
use Rattle.mls_model.specs.PublicState.{Used}
use Rattle.mls_model.specs.Proposals.{proposal_checks}
use Rattle.mls_model.specs.Commit.{next_public}
use Rattle.mls_model.specs.Member.{KeptProposal, Pending, Member, find_proposals}
use Rattle.mls_model.specs.Messages.{decode_message, sender_leaf, reference_of}
use Rattle.mls_model.specs.Candidate.{Candidate}

-- ---- what a member keeps

-- a member has the leaf's private key of an own update that it keeps, and no key of another proposal
abbrev pub HasOwnKey : Crypto → Proposal → Option (List ℕ) → Type 0
HasOwnKey c (proposal.Update leaf) own = (key : List ℕ) × (own ≡ Some key) × (c.public key ≡ leaf.encryption_key)
HasOwnKey c other own = own ≡ None

-- a kept proposal is what its message says, has passed its checks here, and has a private key exactly when it is an own
-- update
pub record IsGoodKept (c : Crypto) (m : Member) (k : KeptProposal) : Type 0 where
  pub said : PublicMessage
  pub decodes : decode_message k.message ≡ Ok (message.PublicMessage said)
  pub fits : mls_message.Fits (message.PublicMessage said)
  pub says : said.content.body ≡ body.Proposal k.proposal
  pub from : sender_leaf said.content.sender ≡ k.sender
  pub group : said.content.group_id ≡ m.public.context.group_id
  pub epoch : said.content.epoch ≡ m.public.context.epoch
  pub reference : reference_of said.content ≡ k.reference
  pub member : IsSome (leaf_of m.public.tree k.sender)
  pub checked : proposal_checks c m.public k.sender k.proposal ≡ Ok passed
  pub own : k.sender ≡ m.keys.leaf → HasOwnKey c k.proposal k.own_key
  pub others : k.sender ≢ m.keys.leaf → k.own_key ≡ None

-- a pending commit is the member's own, in its epoch, and leads to its pending state
pub record IsGoodPending (c : Crypto) (m : Member) (p : Pending) : Type 0 where
  pub said : PublicMessage
  pub commit : Commit
  pub tag : List ℕ
  pub used : List Used
  pub decodes : decode_message p.message ≡ Ok (message.PublicMessage said)
  pub fits : mls_message.Fits (message.PublicMessage said)
  pub says : said.content.body ≡ body.Commit commit tag
  pub from : sender_leaf said.content.sender ≡ m.keys.leaf
  pub below : nat_lt m.public.context.epoch (2 ^ 64 - 1) ≡ true
  pub uses : find_proposals m.kept m.keys.leaf commit.proposals ≡ Ok used
  pub next : next_public c m.public m.keys.leaf used commit (framed_content_of said.content) said.content.signature tag
      ≡ Ok p.public
  pub confirmed : tag ≡ confirmation_tag p.epoch_secret p.public.context.confirmed_transcript_hash
  pub keys : HasExact c p.public.tree p.keys
  pub leaf : p.keys.leaf ≡ m.keys.leaf

-- a member's pending commit is good, where it has one
abbrev pub IsGoodIfPending : Crypto → Member → Option Pending → Type 0
IsGoodIfPending c m None = Unit {0}
IsGoodIfPending c m (Some p) = IsGoodPending c m p

-- ---- the whole

-- a node that isn't blank has a spelling
abbrev pub NodeFits : Option Node → Type 0
NodeFits None = Unit {0}
NodeFits (Some n) = node.Fits n

-- a member is good: its tree, its private keys, what it keeps and what it has pending, and its context and nodes have
-- spellings
pub record IsGoodMember (c : Crypto) (m : Member) : Type 0 where
  pub tree : IsGood (rules_of c m.public.context.group_id) m.public.tree
  pub hash : m.public.context.tree_hash ≡ tree_hash 0 m.public.tree
  pub suite : m.public.context.cipher_suite ≡ c.number
  pub own : LeafNode
  pub is_own : leaf_of m.public.tree m.keys.leaf ≡ Some own
  pub signing : own.signature_key ≡ c.sig_public m.signing
  pub keys : HasExact c m.public.tree m.keys
  pub kept : AllByRecursion (IsGoodKept c m) m.kept
  pub pending : IsGoodIfPending c m m.pending
  pub context : group_context.Fits m.public.context
  pub nodes : AllByRecursion NodeFits (in_order m.public.tree)

-- a candidate is good: it has the private keys of its own KeyPackage, which passes its checks
pub record IsGoodCandidate (c : Crypto) (k : Candidate) : Type 0 where
  pub init : k.offered.init_key ≡ c.public k.init
  pub leaf : k.offered.leaf_node.encryption_key ≡ c.public k.leaf
  pub signing : k.offered.leaf_node.signature_key ≡ c.sig_public k.signing
  pub checked : key_package_checks c k.offered ≡ Ok passed
  pub package_of : key_package.Fits k.offered
