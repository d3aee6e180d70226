-- Which kept proposals go together into one commit (RFC 9420, 12.2).
use Rattle.std.specs.Prelude.{ℕ, ◌==◌, Bool, true, false, not, ◌&&◌, ◌||◌, if◌then◌else◌, List, [], ◌∷◌, map, Option, Some, None, is_some, Result, IfOk}
use Rattle.std.specs.List.{list_any}
use Rattle.std.specs.Str.{bytes_eq}
use Rattle.mls_wire.specs.Checks.{DoesAs}
use Rattle.mls_leaf.specs.declared.key_package.KeyPackage.{KeyPackage}
use Rattle.mls_leaf.specs.declared.leaf.LeafNode.{LeafNode}
use Rattle.mls_leaf.specs.declared.proposal.Proposal.{Proposal}
use Rattle.mls_leaf.specs.declared.proposal.Proposal.TheVariants.{Add, Update, Remove, GroupContextExtensions}
use Rattle.mls_types.specs.declared.commit.ProposalOrRef.{ProposalOrRef}
use Rattle.mls_types.specs.declared.commit.ProposalOrRef.TheVariants as listed
use Rattle.mls_suite.specs.Crypto.{Crypto}
use Rattle.mls_tree_model.specs.Term.{Term, leaf_of}
use Rattle.mls_tree.specs.HeldKeys.{has_client, has_key}
use Rattle.mls_model.specs.Make.{commit_call}
use Rattle.mls_model.specs.Member.{KeptProposal, Member}
use Rattle.mls_model.specs.MemberInvariant.{IsGoodMember}
use Rattle.mls_model.specs.Proposals.{add_in, extensions_in, remove_in}
use Rattle.mls_member.specs.Answers.{ReachesAll, messages_of}
use Rattle.mls_member.specs.Faults.{number_of}
use Rattle.mls_member.specs.Process.{is_leaf}
use Rattle.mls_member.specs.declared.commit_kept.KeptCommit.{KeptCommit}
use Rattle.mls_member.specs.declared.error.Refusal.{Refusal}

-- ---- what a kept proposal asks for

-- whether it removes this leaf (RFC 9420, 12.1.3)
abbrev pub removes : ℕ → KeptProposal → Bool
removes leaf k = is_leaf leaf (remove_in k.proposal)

-- whether it is an update, whose sender's leaf it replaces (RFC 9420, 12.1.2)
abbrev pub is_update : Proposal → Bool
is_update (Add offered) = false
is_update (Update leaf) = true
is_update (Remove leaf) = false
is_update (GroupContextExtensions list) = false

-- whether it updates this leaf
abbrev pub updates : ℕ → KeptProposal → Bool
updates leaf k = is_update k.proposal && (k.sender == leaf)

-- whether a KeyPackage, if there is one, is of the client with this signature key
abbrev pub is_client : List ℕ → Option KeyPackage → Bool
is_client key None = false
is_client key (Some offered) = bytes_eq offered.leaf_node.signature_key key

-- whether it adds the client with this signature key (RFC 9420, 12.1.1)
abbrev pub adds : List ℕ → KeptProposal → Bool
adds key k = is_client key (add_in k.proposal)

-- whether a leaf, if it isn't blank, is of the client with this signature key
abbrev pub is_leaf_of : List ℕ → Option LeafNode → Bool
is_leaf_of key None = false
is_leaf_of key (Some leaf) = bytes_eq leaf.signature_key key

-- whether what may be a removal is of that client's leaf, which isn't the member's own at leaf me
abbrev pub is_removal_of : ℕ → Term → List ℕ → Option ℕ → Bool
is_removal_of me t key None = false
is_removal_of me t key (Some leaf) = not (leaf == me) && is_leaf_of key (leaf_of t leaf)

-- whether it removes that client from the tree
abbrev pub removes_client : ℕ → Term → List ℕ → KeptProposal → Bool
removes_client me t key k = is_removal_of me t key (remove_in k.proposal)

-- the encryption key that a proposal brings into the tree: that of an add's or an update's leaf
abbrev pub new_key : Proposal → Option (List ℕ)
new_key (Add offered) = Some offered.leaf_node.encryption_key
new_key (Update leaf) = Some leaf.encryption_key
new_key (Remove leaf) = None
new_key (GroupContextExtensions list) = None

-- whether a key, if there is one, is this one
abbrev pub is_key : List ℕ → Option (List ℕ) → Bool
is_key key None = false
is_key key (Some other) = bytes_eq other key

-- whether it brings this encryption key
abbrev pub brings : List ℕ → KeptProposal → Bool
brings key k = is_key key (new_key k.proposal)

-- whether it has extensions for the group (RFC 9420, 12.1.7)
abbrev pub sets_extensions : KeptProposal → Bool
sets_extensions k = is_some (extensions_in k.proposal)

-- ---- which go together

-- whether the client with this signature key is in the tree, and none of all the kept proposals removes it; the member at
-- leaf me doesn't remove itself
abbrev pub is_staying : ℕ → Term → List KeptProposal → List ℕ → Bool
is_staying me t all key = has_client t key && not (list_any (removes_client me t key) all)

-- whether a node of the tree has this encryption key, or a later proposal brings it
abbrev pub is_taken : Term → List KeptProposal → List ℕ → Bool
is_taken t later key = has_key t key || list_any (brings key) later

-- of the member at leaf me of a tree, that keeps all of these: whether it leaves out a proposal, behind which stand later
-- ones. It leaves out its own update and its own removal, an update of a leaf that is removed, an add of a client that
-- stays, an add or an update with an encryption key of the tree, and of several proposals that change one leaf, add one
-- client, bring one encryption key or set the extensions, all but the last (RFC 9420, 7.3 and 12.2)
abbrev pub gives_way : ℕ → Term → List KeptProposal → List KeptProposal → ℕ → Proposal → Bool
gives_way me t all later sender (Add offered) =
    list_any (adds offered.leaf_node.signature_key) later
    || (is_staying me t all offered.leaf_node.signature_key
    || is_taken t later offered.leaf_node.encryption_key)
gives_way me t all later sender (Update leaf) =
    (sender == me) || (list_any (removes sender) all || (list_any (updates sender) later
    || is_taken t later leaf.encryption_key))
gives_way me t all later sender (Remove leaf) = (leaf == me) || list_any (removes leaf) later
gives_way me t all later sender (GroupContextExtensions list) = list_any sets_extensions later

-- whether the member leaves out a kept proposal, by its sender
abbrev pub is_left_out : ℕ → Term → List KeptProposal → List KeptProposal → KeptProposal → Bool
is_left_out me t all later k = gives_way me t all later k.sender k.proposal

-- of some of the kept proposals, with all that stand behind them, those that go together
unfoldable pub together : ℕ → Term → List KeptProposal → List KeptProposal → List KeptProposal
together me t all [] = []
together me t all (k ∷ ks) =
    if is_left_out me t all ks k then together me t all ks else k ∷ together me t all ks

-- and those that are left out
unfoldable pub apart : ℕ → Term → List KeptProposal → List KeptProposal → List KeptProposal
apart me t all [] = []
apart me t all (k ∷ ks) =
    if is_left_out me t all ks k then k ∷ apart me t all ks else apart me t all ks

-- a kept proposal, as a commit lists it by its reference (RFC 9420, 12.4)
abbrev pub named : KeptProposal → ProposalOrRef
named k = listed.Reference k.reference

-- what a member's commit of its kept proposals lists
abbrev pub kept_list : Member → List ProposalOrRef
kept_list m = map named (together m.keys.leaf m.public.tree m.kept m.kept)

-- the references of those that it leaves out
abbrev pub left_out_of : Member → List (List ℕ)
left_out_of m =
    map (λ (k : KeptProposal). k.reference) (apart m.keys.leaf m.public.tree m.kept m.kept)

-- ---- the call

-- the messages of such a commit: its own, and that of its Welcome where there is one
abbrev pub kept_messages : KeptCommit → List ℕ × Option (List ℕ)
kept_messages x = messages_of x.made

-- The call commits the kept proposals that go together, or refuses with the number of what fails, or with
-- `OutOfMemory`.
abbrev pub CommitsKept : Crypto → Bool → List ℕ → Member → Member → Result KeptCommit Refusal →
    Type 0
CommitsKept c path seed old new result =
    DoesAs kept_messages number_of (commit_call c old (kept_list old) path seed) old new result

-- what a good member's commit made reaches the group
abbrev pub KeptReaches : Crypto → Member → Member → Result KeptCommit Refusal → Type 0
KeptReaches c old new result =
    IsGoodMember c old → IfOk result (λ x. ReachesAll c old new (kept_list old) x.made)
