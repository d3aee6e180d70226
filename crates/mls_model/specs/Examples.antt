-- Small states, worked out: what commits make of trees and keys, which journals are homemade, and what worlds answer.
-- The suite and all that a statement doesn't look at are variables.
use Rattle.std.specs.Prelude.{◌≡◌, ℕ, ◌+◌, true, false, List, [], ◌∷◌, Some, None, Ok, Err}
use Rattle.mls_leaf.specs.declared.extension.Extension.{Extension}
use Rattle.mls_leaf.specs.declared.leaf.LeafNode.{LeafNode}
use Rattle.mls_leaf.specs.declared.leaf.LeafSource.TheVariants as leaf_node_source
use Rattle.mls_leaf.specs.declared.key_package.KeyPackage.{KeyPackage}
use Rattle.mls_leaf.specs.declared.proposal.Proposal.{Proposal}
use Rattle.mls_leaf.specs.declared.proposal.Proposal.TheVariants as proposal
use Rattle.mls_types.specs.declared.group_context.GroupContext.{GroupContext}
use Rattle.mls_types.specs.declared.commit.ProposalOrRef.TheVariants as listed
use Rattle.mls_types.specs.declared.content.FramedContent.{FramedContent}
use Rattle.mls_suite.specs.Crypto.{Crypto}
use Rattle.mls_tree_model.specs.Term.{Term, Branch}
use Rattle.mls_tree_model.specs.Hashes.{tree_hash}
use Rattle.mls_tree_model.specs.Sets.{has}
use Rattle.mls_tree_model.specs.Examples.{member, blank, over, listing_these}
use Rattle.mls_model.specs.PublicState.{PublicState, Used, provisional_context}
use Rattle.mls_model.specs.Proposals.{removed_leaves, extensions_after}
use Rattle.mls_model.specs.Commit.{Edits, apply_proposals, change_after_edits}
use Rattle.mls_model.specs.Member.{KeptProposal, find_proposals, follow_edits}

-- ---- what a commit makes of a tree

-- a leaf whose keys are this one byte, and a KeyPackage with that leaf
abbrev pub leaf_with : ℕ → LeafNode
leaf_with n = record {
  encryption_key = n ∷ [];
  signature_key = n ∷ [];
  credential = record { identity = [] };
  capabilities = record { versions = []; cipher_suites = []; extensions = []; proposals = []; credentials = [] };
  source = leaf_node_source.Update;
  signature = [];
}

abbrev pub package_with : ℕ → KeyPackage
package_with n = record { cipher_suite = 1; init_key = []; leaf_node = leaf_with n; signature = [] }

abbrev pub member_with : ℕ → Term
member_with n = member (leaf_with n)

-- four members with the keys 1 to 4
abbrev pub four_members : Term
four_members = over (over (member_with 1) (member_with 2)) (over (member_with 3) (member_with 4))

abbrev pub state_with : GroupContext → List ℕ → Term → PublicState
state_with context interim t = record { context = context; tree = t; interim = interim }

-- a proposal that was kept, of this sender
abbrev pub use_of : ℕ → Proposal → Used
use_of sender said = record { proposal = said; sender = sender; is_full = false }

-- 8 leaves, members 0, 1 and 4, and a parent over leaves 0 to 3: a commit that removes leaf 4 and adds one halves the
-- tree twice and then doubles it. It has 4 leaves, the new one is leaf 2, and that parent was cut off
abbrev pub HalvesAndDoubles : Type 0
HalvesAndDoubles = (c : Crypto) (context : GroupContext) (interim key hash : List ℕ) →
    apply_proposals c (state_with context interim (over (Branch (listing_these key hash [])
    (over (member_with 1) (member_with 2)) (over blank blank)) (over (over (member_with 3) blank)
    (over blank blank)))) 0
    (use_of 1 (proposal.Remove 4) ∷ use_of 1 (proposal.Add (package_with 5)) ∷ [])
    ≡ Ok (record { tree = over (over (member_with 1) (member_with 2)) (over (member_with 5) blank); added = 2 ∷ [] })

-- the key that leaf 0 had for a parent is gone where the parent was cut off
abbrev pub KeysOfCutNodes : Type 0
KeysOfCutNodes = (own key : List ℕ) →
    follow_edits None (over (over (member_with 1) (member_with 2)) (over (member_with 5) blank))
    (record { leaf = 0; own = own; above = None ∷ Some key ∷ None ∷ [] })
    ≡ record { leaf = 0; own = own; above = None ∷ None ∷ [] }

-- of 4 members leaf 1 is removed and another added: the new member stands at leaf 1
abbrev pub TakenAgain : Type 0
TakenAgain = (c : Crypto) (context : GroupContext) (interim : List ℕ) →
    apply_proposals c (state_with context interim four_members) 0
    (use_of 2 (proposal.Remove 1) ∷ use_of 2 (proposal.Add (package_with 5)) ∷ [])
    ≡ Ok (record {
      tree = over (over (member_with 1) (member_with 5)) (over (member_with 3) (member_with 4));
      added = 1 ∷ [];
    })

-- of 4 members leaf 1 is removed and the very same leaf added, so that the tree is as before: that leaf 1 is removed is
-- told by the list of removes alone
abbrev pub TakenBySame : Type 0
TakenBySame = (c : Crypto) (context : GroupContext) (interim : List ℕ) →
    apply_proposals c (state_with context interim four_members) 0
    (use_of 2 (proposal.Remove 1) ∷ use_of 2 (proposal.Add (package_with 2)) ∷ [])
    ≡ Ok (record { tree = four_members; added = 1 ∷ [] })

abbrev pub RemovedByList : Type 0
RemovedByList = has (removed_leaves (use_of 2 (proposal.Remove 1) ∷ use_of 2 (proposal.Add (package_with 2)) ∷ [])) 1
    ≡ true

-- two updates of one leaf are refused, and an update of a leaf that is removed too; the committer's removal is refused
-- before these, and its update before that
abbrev pub UpdatedTwice : Type 0
UpdatedTwice = (c : Crypto) (context : GroupContext) (interim : List ℕ) →
    apply_proposals c (state_with context interim four_members) 0
    (use_of 1 (proposal.Update (leaf_with 5)) ∷ use_of 1 (proposal.Update (leaf_with 6)) ∷ []) ≡ Err 63

abbrev pub UpdatedAndRemoved : Type 0
UpdatedAndRemoved = (c : Crypto) (context : GroupContext) (interim : List ℕ) →
    apply_proposals c (state_with context interim four_members) 0
    (use_of 2 (proposal.Remove 1) ∷ use_of 1 (proposal.Update (leaf_with 6)) ∷ []) ≡ Err 63

abbrev pub CommitterFirst : Type 0
CommitterFirst = (c : Crypto) (context : GroupContext) (interim : List ℕ) →
    apply_proposals c (state_with context interim four_members) 1
    (use_of 2 (proposal.Remove 1) ∷ use_of 1 (proposal.Update (leaf_with 6)) ∷ []) ≡ Err 61

abbrev pub CommitterRemoved : Type 0
CommitterRemoved = (c : Crypto) (context : GroupContext) (interim : List ℕ) →
    apply_proposals c (state_with context interim four_members) 1
    (use_of 2 (proposal.Remove 1) ∷ use_of 2 (proposal.Remove 1) ∷ []) ≡ Err 62

-- ---- extensions of the group

-- one extension of type f000, with this byte as its data
abbrev pub list_with : ℕ → List Extension
list_with n = record { kind = 61440; content = n ∷ [] } ∷ []

abbrev pub use_of_list : ℕ → List Extension → Used
use_of_list sender list = use_of sender (proposal.GroupContextExtensions list)

-- two lists are refused, of two members or of one, and where they are the same list too; two removals of one leaf are
-- refused before that
abbrev pub TwoLists : Type 0
TwoLists = (c : Crypto) (context : GroupContext) (interim : List ℕ) →
    apply_proposals c (state_with context interim four_members) 0
    (use_of_list 1 (list_with 5) ∷ use_of 2 (proposal.Remove 3) ∷ use_of_list 2 (list_with 6) ∷ []) ≡ Err 68

abbrev pub OneListTwice : Type 0
OneListTwice = (c : Crypto) (context : GroupContext) (interim : List ℕ) →
    apply_proposals c (state_with context interim four_members) 0
    (use_of_list 0 (list_with 5) ∷ use_of_list 0 (list_with 5) ∷ []) ≡ Err 68

abbrev pub LeafBeforeLists : Type 0
LeafBeforeLists = (c : Crypto) (context : GroupContext) (interim : List ℕ) →
    apply_proposals c (state_with context interim four_members) 0
    (use_of_list 1 [] ∷ use_of_list 1 [] ∷ use_of 2 (proposal.Remove 1) ∷ use_of 3 (proposal.Remove 1) ∷ []) ≡ Err 63

-- one list leaves the tree, even where the commit removes its sender
abbrev pub ListOfRemoved : Type 0
ListOfRemoved = (c : Crypto) (context : GroupContext) (interim : List ℕ) →
    apply_proposals c (state_with context interim four_members) 0
    (use_of_list 3 (list_with 5) ∷ use_of 2 (proposal.Remove 3) ∷ [])
    ≡ Ok (record { tree = over (over (member_with 1) (member_with 2)) (over (member_with 3) blank); added = [] })

-- a commit of a list has to have a path
abbrev pub ListAsksForPath : Type 0
ListAsksForPath = (c : Crypto) (p : PublicState) (said : FramedContent) (signature : List ℕ) (e : Edits) →
    change_after_edits c p 0 (use_of_list 1 (list_with 5) ∷ [])
    (record { proposals = listed.Reference (7 ∷ []) ∷ []; path = None }) said signature e ≡ Err 64

-- the list replaces what the group carried, whatever that was; the empty list clears it, and without a list it stays
abbrev pub ListReplaces : Type 0
ListReplaces = (context : GroupContext) (t : Term) →
    provisional_context context (extensions_after context.extensions
    (use_of 2 (proposal.Remove 3) ∷ use_of_list 1 (list_with 5) ∷ [])) t
    ≡ record context { epoch = context.epoch + 1; tree_hash = tree_hash 0 t; extensions = list_with 5 }

abbrev pub ListClears : Type 0
ListClears = (context : GroupContext) (t : Term) →
    provisional_context context (extensions_after context.extensions (use_of_list 1 [] ∷ [])) t
    ≡ record context { epoch = context.epoch + 1; tree_hash = tree_hash 0 t; extensions = [] }

abbrev pub ListStays : Type 0
ListStays = (context : GroupContext) (t : Term) →
    provisional_context context (extensions_after context.extensions (use_of 2 (proposal.Remove 3) ∷ [])) t
    ≡ record context { epoch = context.epoch + 1; tree_hash = tree_hash 0 t }

-- ---- which proposals it uses

abbrev pub kept_under_7 : List ℕ → KeptProposal
kept_under_7 message =
    record { reference = 7 ∷ []; message = message; proposal = proposal.Remove 3; sender = 2; own_key = None }

-- a commit uses a kept proposal with its sender, and one in full with the committer
abbrev pub UsesKept : Type 0
UsesKept = (message : List ℕ) →
    find_proposals (kept_under_7 message ∷ []) 1 (listed.Proposal (proposal.Remove 0) ∷ listed.Reference (7 ∷ []) ∷ [])
    ≡ Ok (record { proposal = proposal.Remove 0; sender = 1; is_full = true } ∷ use_of 2 (proposal.Remove 3) ∷ [])

abbrev pub UsesUnknown : Type 0
UsesUnknown = (message : List ℕ) → find_proposals (kept_under_7 message ∷ []) 1
    (listed.Reference (7 ∷ []) ∷ listed.Reference (8 ∷ []) ∷ []) ≡ Err 60
