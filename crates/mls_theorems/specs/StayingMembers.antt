-- A member that a commit doesn't remove stands in the tree of its edits with the keys that are due.
use Rattle.std.specs.Prelude.{◌≡◌, ℕ, false, List, Some, Ok, ◌≢◌}
use Rattle.mls_leaf.specs.declared.leaf.LeafNode.{LeafNode}
use Rattle.mls_types.specs.declared.commit.ProposalOrRef.{ProposalOrRef}
use Rattle.mls_suite.specs.Crypto.{Crypto, Lawful}
use Rattle.mls_tree_model.specs.Sets.{has}
use Rattle.mls_tree_model.specs.Term.{leaf_of}
use Rattle.mls_model.specs.PublicState.{Used}
use Rattle.mls_model.specs.Proposals.{removed_leaves}
use Rattle.mls_model.specs.Commit.{Edits, apply_proposals}
use Rattle.mls_model.specs.Member.{Member, find_proposals}
use Rattle.mls_model.specs.MemberInvariant.{IsGoodMember}
use Rattle.mls_theorems.specs.OpenedPaths.{Stays}
use Rattle.mls_model.specs.Agreement.{Agree, AgreeSecret, Keeps}
use Rattle.mls_model.specs.Claims.{IsMade}
use Rattle.mls_model.specs.Journal.{names_in}
use Rattle.mls_model.specs.Make.{Made}
use Rattle.mls_theorems.specs.Receivers.{ReceivesOther}

abbrev pub MemberStays : Type 0
MemberStays = (c : Crypto) (m : Member) (i : ℕ) (list : List ProposalOrRef) (used : List Used) (e : Edits)
    (x : LeafNode) → IsGoodMember c m → i ≢ m.keys.leaf → leaf_of m.public.tree i ≡ Some x →
    find_proposals m.kept i list ≡ Ok used → apply_proposals c m.public i used ≡ Ok e →
    has (removed_leaves used) m.keys.leaf ≡ false → Stays c m i list e

-- a made commit is received by each good member at another leaf that agrees with its maker, in secrets too, and keeps
-- the proposals that it names, whether it was removed before or not
abbrev pub MadeIsReceived : Type 0
MadeIsReceived = (c : Crypto) → Lawful c → (maker m : Member) (list : List ProposalOrRef) (made : Made) →
    IsMade c maker list made → IsGoodMember c m → maker.keys.leaf ≢ m.keys.leaf → Agree maker m → AgreeSecret maker m →
    Keeps m.kept list (names_in maker.kept list) → ReceivesOther c m list made
