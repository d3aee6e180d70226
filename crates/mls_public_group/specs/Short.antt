-- How long the parts of a group are.
use Rattle.std.specs.Prelude.{ℕ, ◌<◌, ◌≤◌, ◌^◌, List, length, IfSome}
use Rattle.std.specs.List.{AllByRecursion}
use Rattle.mls_wire.specs.Format.{Format}
use Rattle.mls_leaf.specs.GroupExtensions.{group_extensions}
use Rattle.mls_leaf.specs.Leaf.{leaf_node}
use Rattle.mls_leaf.specs.Proposal.{proposal}
use Rattle.mls_leaf.specs.declared.leaf.LeafNode.{LeafNode}
use Rattle.mls_leaf.specs.declared.proposal.Proposal.{Proposal}
use Rattle.mls_leaf.specs.declared.proposal.Proposal.TheVariants as proposes
use Rattle.mls_types.specs.declared.group_context.GroupContext.{GroupContext}
use Rattle.mls_tree_model.specs.Merge.{merge_path}
use Rattle.mls_tree_model.specs.Term.{Term, leaf_of}
use Rattle.mls_model.specs.PublicState.{Used}

-- the value has a spelling, of fewer than n bytes
pub record IsBelow {V : Type 0} (n : ℕ) (format : Format V) (v : V) : Type 0 where
  pub fits : format.Fits v
  pub below : length (format.spell v) < n

-- each member's leaf encodes to fewer than n bytes
abbrev pub HasLeavesBelow : ℕ → Term → Type 0
HasLeavesBelow n t = (i : ℕ) → IfSome (leaf_of t i) (λ v. IsBelow n leaf_node v)

-- the proposal encodes to fewer than n bytes; of a list of extensions nothing is asked, since no check and no edit
-- speaks of its length
abbrev pub IsProposalBelow : ℕ → Proposal → Type 0
IsProposalBelow n (proposes.Add offered) = IsBelow n proposal (proposes.Add offered)
IsProposalBelow n (proposes.Update leaf) = IsBelow n proposal (proposes.Update leaf)
IsProposalBelow n (proposes.Remove leaf) = IsBelow n proposal (proposes.Remove leaf)
IsProposalBelow n (proposes.GroupContextExtensions list) = Unit {0}

-- each proposal encodes to fewer than n bytes, lists of extensions aside
abbrev pub AreBelow : ℕ → List Used → Type 0
AreBelow n used = AllByRecursion (λ (u : Used). IsProposalBelow n u.proposal) used

-- the tree's leaves are below each bound, from that of a group's leaves on, that the proposals are below
abbrev pub HasLeavesShortAs : List Used → Term → Type 0
HasLeavesShortAs used t = (n : ℕ) → 2 ^ 27 ≤ n → AreBelow n used → HasLeavesBelow n t

-- the new tree's leaves are below each bound that those of the old one and this leaf are below
abbrev pub StaysShort : Term → LeafNode → Term → Type 0
StaysShort old x new = (n : ℕ) → HasLeavesBelow n old → IsBelow n leaf_node x → HasLeavesBelow n new

-- with a path merged, the leaves of a tree are as short as its own and the path's (RFC 9420, 7.5)
abbrev pub PathsKeepLeavesShort : Type 0
PathsKeepLeavesShort = (n : ℕ) (t : Term) (i : ℕ) (x : LeafNode) (keys : List (List ℕ)) →
    IsBelow n leaf_node x → HasLeavesBelow n t → HasLeavesBelow n (merge_path t i x keys)

-- a context of texts and extensions that are short, and whose numbers have 16 and 64 bits: it has a spelling, of fewer
-- than 2^30 bytes, since 2^28 + 2^27 + 2^28 + 2^27 is 2^29 + 2^28
pub record IsShortContext (context : GroupContext) : Type 0 where
  pub suite : context.cipher_suite < 2 ^ 16
  pub epoch : context.epoch < 2 ^ 64
  pub group_id : length context.group_id < 2 ^ 28
  pub tree_hash : length context.tree_hash < 2 ^ 27
  pub confirmed : length context.confirmed_transcript_hash < 2 ^ 28
  pub extensions : IsBelow (2 ^ 27) group_extensions context.extensions
