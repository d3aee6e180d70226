-- What a candidate finds in the GroupInfo of a made Welcome.
use Rattle.std.specs.Prelude.{◌≡◌, ℕ, false, List, [], Option, Some, None, Ok}
use Rattle.std.specs.Str.{bytes_eq}
use Rattle.mls_wire.specs.Checks.{passed}
use Rattle.mls_leaf.specs.declared.leaf.LeafNode.{LeafNode}
use Rattle.mls_types.specs.GroupContext.{group_context}
use Rattle.mls_types.specs.GroupInfo.{group_info}
use Rattle.mls_types.specs.declared.group_info.GroupInfo.{GroupInfo}
use Rattle.mls_suite.specs.Crypto.{Crypto, Lawful}
use Rattle.mls_tree_model.specs.Term.{leaf_of}
use Rattle.mls_tree_model.specs.Hashes.{tree_hash}
use Rattle.mls_treekem_model.specs.Keys.{PrivateKeys}
use Rattle.mls_schedule.specs.Epoch.{epoch_secret, confirmation_tag}
use Rattle.mls_model.specs.Candidate.{Candidate}
use Rattle.mls_model.specs.Commit.{Change, public_with}
use Rattle.mls_model.specs.Join.{JoinedMember, joined_tree, signer_checks, place_of, joined_keys, member_of}
use Rattle.mls_model.specs.OpenedWelcome.{Opened}
use Rattle.mls_model.specs.PublicState.{PublicState}
use Rattle.mls_model.specs.Welcome.{info_of}
use Rattle.mls_theorems.specs.CommitLaws.{HasGood}

-- ---- the tree

-- the checks of the tree in a GroupInfo pass (`NoTree` (76), `TreeShape` (20), `TreeFull` (21), `TreeHashWrong` (77)
-- and those of a whole tree), and the tree is the maker's
abbrev pub TreeIsTaken : Type 0
TreeIsTaken = (c : Crypto) (signing : List ℕ) (p : PublicState) (tag : List ℕ) (signer : ℕ) → HasGood c p p.tree →
    p.context.tree_hash ≡ tree_hash 0 p.tree → joined_tree c (info_of c signing p tag signer) ≡ Ok p.tree

-- ---- the signer

-- the checks of the signer pass (`SignerWrong` (78) and `GroupInfoSignature` (79)), where its leaf has the maker's
-- signature key and not the candidate's
abbrev pub SignerPasses : Type 0
SignerPasses = (c : Crypto) → Lawful c →
    (k : Candidate) (signing : List ℕ) (p : PublicState) (tag : List ℕ) (signer : ℕ) (x : LeafNode) →
    leaf_of p.tree signer ≡ Some x → x.signature_key ≡ c.sig_public signing →
    bytes_eq x.signature_key k.offered.leaf_node.signature_key ≡ false →
    signer_checks c k (info_of c signing p tag signer) p.tree ≡ Ok passed

-- ---- the new member

-- a candidate joins, where its place and its keys are found
abbrev pub JoinsAt : Type 0
JoinsAt = (c : Crypto) (k : Candidate) (signing : List ℕ) (change : Change) (joiner tag : List ℕ) (signer : ℕ)
    (path_secret : Option (List ℕ)) (place : ℕ × LeafNode) (keys : PrivateKeys) →
    let p : PublicState = public_with change tag in
    let info : GroupInfo = info_of c signing p tag signer in
    let epoch : List ℕ = epoch_secret joiner (group_context.spell change.context) in
    let opened : Opened =
    record { joiner = joiner; path_secret = path_secret; bytes = group_info.spell info; info = info } in
    let joined : JoinedMember = record {
      member = record {
        gone = false;
        public = p;
        epoch_secret = epoch;
        keys = keys;
        signing = k.signing;
        kept = [];
        pending = None;
      };
      info = group_info.spell info;
    } in
    joined_tree c info ≡ Ok p.tree → signer_checks c k info p.tree ≡ Ok passed →
    place_of k.offered.leaf_node p.tree ≡ Some place →
    joined_keys c p.tree signer (record { leaf = place.0; own = k.leaf; above = [] }) path_secret ≡ Ok keys →
    tag ≡ confirmation_tag epoch change.context.confirmed_transcript_hash → member_of c k opened ≡ Ok joined
