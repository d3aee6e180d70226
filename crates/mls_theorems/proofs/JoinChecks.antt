-- What a candidate finds in the GroupInfo of a made Welcome.
use Rattle.std.proofs.Common.{◌≡◌, ℕ, true, false, not, List, [], Some, None, Ok, refl, ap}
use Rattle.std.specs.Prelude.{codes}
use Rattle.std.specs.Str.{bytes_eq}
use Rattle.std.proofs.lemmas.Bool.{leb-true}
use Rattle.std.proofs.lemmas.Slice.Eq.{bytes_eq-Decides}
use Rattle.mls_wire.specs.Checks.{passed}
use Rattle.mls_leaf.specs.declared.leaf.LeafNode.{LeafNode}
use Rattle.mls_types.specs.GroupContext.{group_context}
use Rattle.mls_types.specs.GroupInfo.{group_info}
use Rattle.mls_types.specs.declared.group_info.GroupInfo.{GroupInfo}
use Rattle.mls_suite.specs.Crypto.{Crypto}
use Rattle.mls_suite.proofs.LabelLaws.{verifies_signed}
use Rattle.mls_tree_model.specs.Term.{Term, height}
use Rattle.mls_tree_model.specs.Arrays.{to_nodes, from_nodes}
use Rattle.mls_tree_model.proofs.ArrayLaws.{from_to_nodes}
use Rattle.mls_tree_model.specs.Good.{tree_checks, has_good_shape, is_within}
use Rattle.mls_tree_model.proofs.GoodLaws.{good_passes}
use Rattle.mls_tree_model.specs.Hashes.{tree_hash}
use Rattle.mls_tree.specs.Rules.{rules_of}
use Rattle.mls_tree.specs.Tree.{max_leaves}
use Rattle.mls_treekem_model.specs.Keys.{PrivateKeys}
use Rattle.mls_schedule.specs.Epoch.{epoch_secret, confirmation_tag}
use Rattle.mls_schedule.specs.Transcript.{interim_hash}
use Rattle.mls_model.specs.Candidate.{Candidate}
use Rattle.mls_model.specs.Commit.{public_with}
use Rattle.mls_model.specs.Join.{JoinedMember, joined_tree, signer_checks, place_of, joined_keys, enter_group, member_of}
use Rattle.mls_model.specs.OpenedWelcome.{Opened}
use Rattle.mls_model.specs.PublicState.{PublicState}
use Rattle.mls_model.specs.Welcome.{unsigned_info, signed_info, info_of}
use Rattle.mls_theorems.specs.CommitLaws.{HasGood}
use Rattle.mls_theorems.specs.JoinChecks.{TreeIsTaken, SignerPasses, JoinsAt}

nodes_back : (c : Crypto) (p : PublicState) → HasGood c p p.tree → from_nodes max_leaves (to_nodes p.tree) ≡ Ok p.tree
unfolding has_good_shape is_within
nodes_back c p good = from_to_nodes max_leaves (height p.tree) p.tree good.perfect good.shape (leb-true _ _ good.within)

pub tree_is_taken : TreeIsTaken
unfolding joined_tree signed_info unsigned_info
tree_is_taken c signing p tag signer good hash =
    let e1 : from_nodes max_leaves (to_nodes p.tree) ≡ Ok p.tree = nodes_back c p good in
    let e2 : bytes_eq p.context.tree_hash (tree_hash 0 p.tree) ≡ true = (bytes_eq-Decides _ _).1 hash in
    let e3 : tree_checks (rules_of c p.context.group_id) p.tree ≡ Ok passed = good_passes (rules_of c p.context.group_id) p.tree good in
    rw (e1, e2, e3) refl

pub signer_passes : SignerPasses
unfolding signer_checks signed_info unsigned_info
signer_passes c laws k signing p tag signer x is key other =
    let n : not (bytes_eq x.signature_key k.offered.leaf_node.signature_key) ≡ true = ap not other in
    let v = verifies_signed c laws signing (codes "GroupInfoTBS") in
    rw (is, n, key, v) refl

joins_by : (c : Crypto) (k : Candidate) (o : Opened) (t : Term) (place : ℕ × LeafNode) (keys : PrivateKeys) →
    let epoch : List ℕ = epoch_secret o.joiner (group_context.spell o.info.group_context) in
    let joined : JoinedMember = record {
      member = record {
        gone = false;
        public = record { context = o.info.group_context; tree = t; interim = interim_hash o.info.group_context.confirmed_transcript_hash o.info.confirmation_tag };
        epoch_secret = epoch;
        keys = keys;
        signing = k.signing;
        kept = [];
        pending = None;
      };
      info = o.bytes;
    } in
    joined_tree c o.info ≡ Ok t → signer_checks c k o.info t ≡ Ok passed → place_of k.offered.leaf_node t ≡ Some place → joined_keys c t o.info.signer (record { leaf = place.0; own = k.leaf; above = [] }) o.path_secret ≡ Ok keys →
    bytes_eq o.info.confirmation_tag (confirmation_tag epoch o.info.group_context.confirmed_transcript_hash) ≡ true → member_of c k o ≡ Ok joined
unfolding member_of enter_group
joins_by c k o t place keys e1 e2 e3 e4 e5 = rw (e1, e2, e3, e4, e5) refl

pub joins_at : JoinsAt
unfolding signed_info unsigned_info public_with
joins_at c k signing change joiner tag signer path_secret place keys e1 e2 e3 e4 e5 =
    let p : PublicState = public_with change tag in
    let info : GroupInfo = info_of c signing p tag signer in
    joins_by c k (record { joiner = joiner; path_secret = path_secret; bytes = group_info.spell info; info = info }) p.tree place keys e1 e2 e3 e4 ((bytes_eq-Decides _ _).1 e5)
