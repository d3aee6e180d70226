-- A candidate that joins is a good member, whatever Welcome it was given.
use Rattle.std.proofs.Common.{◌≡◌, ℕ, zero, suc, ◌==◌, nat_lt, true, false, not, List, [], ◌∷◌, length, Option, Some, None, Result, Ok, Err, refl, sym, ap, subst, ◌∙◌, arith, eqb-true}
use Rattle.std.specs.Prelude.{find}
use Rattle.std.specs.List.{AllByRecursion, list_all}
use Rattle.std.specs.Str.{bytes_eq}
use Rattle.std.proofs.lemmas.Bool.{and_parts, ltb-true}
use Rattle.std.proofs.lemmas.Slice.Eq.{bytes_eq-Decides}
use Rattle.mls_wire.specs.Checks.{passed, require_some}
use Rattle.mls_wire.specs.Combine.{optional}
use Rattle.mls_wire.specs.Format.{IsBytes}
use Rattle.mls_wire.specs.Laws.{ok_is}
use Rattle.mls_leaf.specs.Leaf.{leaf_node}
use Rattle.mls_leaf.specs.Limits.{input_limit}
use Rattle.mls_leaf.specs.Node.{node}
use Rattle.mls_leaf.proofs.WholeLaws.{whole_takes}
use Rattle.mls_leaf.specs.declared.leaf.LeafNode.{LeafNode}
use Rattle.mls_leaf.specs.declared.node.Node.{Node}
use Rattle.mls_types.specs.GroupContext.{group_context}
use Rattle.mls_types.specs.GroupInfo.{group_info_extensions, group_info}
use Rattle.mls_types.specs.declared.group_info.GroupInfo.{GroupInfo}
use Rattle.mls_types.specs.declared.welcome.EncryptedGroupSecrets.{EncryptedGroupSecrets}
use Rattle.mls_suite.specs.Crypto.{Crypto}
use Rattle.mls_tree_model.specs.Arrays.{from_nodes}
use Rattle.mls_tree_model.specs.Good.{IsGood, tree_checks}
use Rattle.mls_tree_model.specs.Hashes.{tree_hash}
use Rattle.mls_tree_model.specs.Keys.{members}
use Rattle.mls_tree_model.specs.Term.{Term, leaf_at, leaf_of}
use Rattle.mls_tree.specs.Rules.{rules_of}
use Rattle.mls_tree.specs.Tree.{max_leaves}
use Rattle.mls_treekem_model.specs.Join.{take_answer, has_due}
use Rattle.mls_treekem_model.proofs.JoinLaws.{take_exact, take_inside}
use Rattle.mls_treekem_model.specs.Keys.{PrivateKeys, HasExact}
use Rattle.mls_treekem_model.proofs.MemberLaws.{exact_alone}
use Rattle.mls_schedule.specs.Epoch.{welcome_key, welcome_nonce, epoch_secret, confirmation_tag}
use Rattle.mls_schedule.specs.Transcript.{interim_hash}
use Rattle.mls_model.specs.MemberInvariant.{NodeFits, IsGoodMember, IsGoodCandidate}
use Rattle.mls_model.specs.Candidate.{Candidate}
use Rattle.mls_model.specs.Join.{JoinedMember, joined_tree, signer_checks, is_same_leaf, place_of, joined_keys, enter_group, member_of, join_verdict}
use Rattle.mls_model.specs.Messages.{decode_message, are_bytes}
use Rattle.mls_model.specs.OpenedWelcome.{or_fault, welcome_in, Opened, opened_secrets, open_group_info, open_for_candidate, opened_welcome}
use Rattle.mls_model.specs.Proposals.{package_reference}
use Rattle.mls_theorems.proofs.Exact.{exact_written}
use Rattle.mls_theorems.proofs.Cells.{taken_good, taken_parts}
use Rattle.mls_theorems.proofs.Clients.{stands_in}
use Rattle.mls_theorems.proofs.SpelledTrees.{good_nodes_fit}
use Rattle.mls_theorems.proofs.Next.{FitsAt, members_fit}
use Rattle.mls_theorems.specs.NodeSpelling.{PartsFit}
use Rattle.mls_theorems.proofs.One.{at_one, was_found}
use Rattle.mls_theorems.proofs.Sent.{leaf_is_in}
use Rattle.mls_theorems.proofs.Spelled.{one_spelled, package_leaf}
use Rattle.mls_theorems.proofs.Stays.{inside}
use Rattle.mls_wire.proofs.CheckLaws.{require_ok, then_ok, bind_ok, given_ok}
use Rattle.mls_wire.specs.Whole.{whole}
use Rattle.mls_model.proofs.KeyLaws.{leaf_stays}

-- ---- what was opened

bytes_from : (bytes : List ℕ) → list_all (λ (b : ℕ). nat_lt b 256) bytes ≡ true → IsBytes bytes
bytes_from [] h zero = omega arith
bytes_from [] h (suc i) = omega arith
bytes_from (b ∷ bs) h zero = let p = ltb-true _ _ (and_parts (nat_lt b 256) _ h).0 in omega arith
bytes_from (b ∷ bs) h (suc i) = bytes_from bs (and_parts (nat_lt b 256) _ h).1 i

pub are_from : (bytes : List ℕ) → are_bytes bytes ≡ true → IsBytes bytes
unfolding are_bytes
are_from bytes h = bytes_from bytes h

no_fault : {A : Type 0} (n : ℕ) (r : Result A ℕ) (x : A) → or_fault n r ≡ Ok x → r ≡ Ok x
no_fault n (Ok y) x h = h
no_fault n (Err e) x h = absurd cc

-- a GroupInfo of the suite, that the opened bytes are
pub record HasOpened (c : Crypto) (o : Opened) : Type 0 where
  pub bytes : IsBytes o.bytes
  pub reads : whole group_info input_limit o.bytes ≡ Ok o.info
  pub suite : o.info.group_context.cipher_suite ≡ c.number

pub has_opened : (c : Crypto) (k : Candidate) (bytes : List ℕ) (o : Opened) → opened_welcome c k bytes ≡ Ok o → HasOpened c o
unfolding opened_welcome open_for_candidate open_group_info
has_opened c k bytes o h =
    let s1 = bind_ok (decode_message bytes) _ _ h in
    let s2 = bind_ok (require_some 70 (welcome_in s1.0)) _ _ s1.2 in
    let s3 = require_ok 71 (s2.0.cipher_suite == c.number) _ _ s2.2 in
    let s4 = bind_ok (require_some 72 (find (λ (e : EncryptedGroupSecrets). bytes_eq e.new_member (package_reference k.offered)) s2.0.secrets)) _ _ s3.1 in
    let s5 = bind_ok (opened_secrets c k s2.0 s4.0) _ _ s4.2 in
    let s6 = require_ok 74 (length s5.0.psks == 0) _ _ s5.2 in
    let s7 = bind_ok (require_some 75 (c.aead_open (welcome_key s5.0.joiner_secret) (welcome_nonce s5.0.joiner_secret) [] s2.0.encrypted_group_info)) _ _ s6.1 in
    let s8 = require_ok 75 (are_bytes s7.0) _ _ s7.2 in
    let s9 = bind_ok (or_fault 75 (whole group_info input_limit s7.0)) _ _ s8.1 in
    let s10 = require_ok 71 (s9.0.group_context.cipher_suite == c.number) _ _ s9.2 in
    subst (HasOpened c) (ok_is _ o s10.1) (record { bytes = are_from s7.0 s8.0; reads = no_fault 75 (whole group_info input_limit s7.0) s9.0 s9.1; suite = eqb-true _ _ s10.0 })

-- what it has, has a spelling
one_in : (o : Option (List (Option Node))) (nodes : List (Option Node)) → o ≡ Some nodes → group_info_extensions.Fits o → AllByRecursion (optional node).Fits nodes
unfolding group_info_extensions
one_in None nodes e f = absurd cc
one_in (Some xs) nodes e f = let same : xs ≡ nodes = cc in subst (AllByRecursion (optional node).Fits) same f.0.0.0

info_parts : (v : GroupInfo) → group_info.Fits v → group_context.Fits v.group_context × group_info_extensions.Fits v.ratchet_tree
unfolding group_info
info_parts v f = (f.0, f.1.0)

cell_in : (o : Option Node) → (optional node).Fits o → NodeFits o
cell_in None f = tt
cell_in (Some n) f = f.1

cells_in : (os : List (Option Node)) → AllByRecursion (optional node).Fits os → AllByRecursion NodeFits os
cells_in [] f = tt
cells_in (o ∷ os) f = (cell_in o f.0, cells_in os f.1)

-- ---- the tree

pub record TreeDid (c : Crypto) (info : GroupInfo) (t : Term) : Type 0 where
  pub nodes : List (Option Node)
  pub are_nodes : info.ratchet_tree ≡ Some nodes
  pub sent : from_nodes max_leaves nodes ≡ Ok t
  pub hash : info.group_context.tree_hash ≡ tree_hash 0 t
  pub checks : tree_checks (rules_of c info.group_context.group_id) t ≡ Ok passed

pub tree_did : (c : Crypto) (info : GroupInfo) (t : Term) → joined_tree c info ≡ Ok t → TreeDid c info t
unfolding joined_tree
tree_did c info t h =
    let s1 = bind_ok (require_some 76 info.ratchet_tree) _ _ h in
    let s2 = bind_ok (from_nodes max_leaves s1.0) _ _ s1.2 in
    let s3 = require_ok 77 (bytes_eq info.group_context.tree_hash (tree_hash 0 s2.0)) _ _ s2.2 in
    let s4 = then_ok (tree_checks (rules_of c info.group_context.group_id) s2.0) _ _ s3.1 in
    subst (TreeDid c info) (ok_is s2.0 t s4.1) (record { nodes = s1.0; are_nodes = given_ok 76 info.ratchet_tree s1.0 s1.1; sent = s2.1; hash = (bytes_eq-Decides _ _).0 s3.0; checks = s4.0 })

-- ---- the signer

pub record SignerDid (k : Candidate) (info : GroupInfo) (t : Term) : Type 0 where
  pub leaf : LeafNode
  pub is_leaf : leaf_of t info.signer ≡ Some leaf
  pub other : not (bytes_eq leaf.signature_key k.offered.leaf_node.signature_key) ≡ true

pub signer_did : (c : Crypto) (k : Candidate) (info : GroupInfo) (t : Term) → signer_checks c k info t ≡ Ok passed → SignerDid k info t
unfolding signer_checks
signer_did c k info t h =
    let s1 = bind_ok (require_some 78 (leaf_of t info.signer)) _ _ h in
    let s2 = require_ok 78 (not (bytes_eq s1.0.signature_key k.offered.leaf_node.signature_key)) _ _ s1.2 in
    record { leaf = s1.0; is_leaf = given_ok 78 (leaf_of t info.signer) s1.0 s1.1; other = s2.0 }

-- ---- the whole

unfoldable pub alone_at : Candidate → ℕ → PrivateKeys
alone_at k leaf = record { leaf = leaf; own = k.leaf; above = [] }

unfoldable pub joined_by : Candidate → Opened → Term → PrivateKeys → JoinedMember
joined_by k o t keys = record {
  member = record {
    gone = false;
    public = record { context = o.info.group_context; tree = t; interim = interim_hash o.info.group_context.confirmed_transcript_hash o.info.confirmation_tag };
    epoch_secret = epoch_secret o.joiner (group_context.spell o.info.group_context);
    keys = keys;
    signing = k.signing;
    kept = [];
    pending = None;
  };
  info = o.bytes;
}

pub record MemberDid (c : Crypto) (k : Candidate) (o : Opened) (joined : JoinedMember) : Type 0 where
  pub tree : Term
  pub is_tree : joined_tree c o.info ≡ Ok tree
  pub signer : signer_checks c k o.info tree ≡ Ok passed
  pub place : ℕ × LeafNode
  pub is_place : place_of k.offered.leaf_node tree ≡ Some place
  pub keys : PrivateKeys
  pub are_keys : joined_keys c tree o.info.signer (alone_at k place.0) o.path_secret ≡ Ok keys
  pub confirmed : bytes_eq o.info.confirmation_tag (confirmation_tag (epoch_secret o.joiner (group_context.spell o.info.group_context)) o.info.group_context.confirmed_transcript_hash) ≡ true
  pub is : joined_by k o tree keys ≡ joined

pub member_did : (c : Crypto) (k : Candidate) (o : Opened) (joined : JoinedMember) → member_of c k o ≡ Ok joined → MemberDid c k o joined
unfolding member_of enter_group alone_at joined_by
member_did c k o joined h =
    let s1 = bind_ok (joined_tree c o.info) _ _ h in
    let s2 = then_ok (signer_checks c k o.info s1.0) _ _ s1.2 in
    let s3 = bind_ok (require_some 80 (place_of k.offered.leaf_node s1.0)) _ _ s2.1 in
    let s4 = bind_ok (joined_keys c s1.0 o.info.signer (record { leaf = s3.0.0; own = k.leaf; above = [] }) o.path_secret) _ _ s3.2 in
    let s5 = require_ok 65 (bytes_eq o.info.confirmation_tag (confirmation_tag (epoch_secret o.joiner (group_context.spell o.info.group_context)) o.info.group_context.confirmed_transcript_hash)) _ _ s4.2 in
    record { tree = s1.0; is_tree = s1.1; signer = s2.0; place = s3.0; is_place = given_ok 80 (place_of k.offered.leaf_node s1.0) s3.0 s3.1; keys = s4.0; are_keys = s4.1; confirmed = s5.0; is = ok_is _ joined s5.1 }

-- ---- its keys

record KeysDid (c : Crypto) (t : Term) (leaf : ℕ) (keys : PrivateKeys) : Type 0 where
  exact : HasExact c t keys
  same : keys.leaf ≡ leaf

keys_alone : (c : Crypto) (k : Candidate) (t : Term) (leaf : ℕ) (x : LeafNode) → leaf_at 0 t leaf ≡ Some x → c.public k.leaf ≡ x.encryption_key → has_due t (alone_at k leaf) ≡ true → KeysDid c t leaf (alone_at k leaf)
unfolding alone_at
keys_alone c k t leaf x is own due = record { exact = exact_alone c t x k.leaf (alone_at k leaf) is own refl due; same = refl }

keys_did : (c : Crypto) (k : Candidate) (t : Term) (i leaf : ℕ) (x y : LeafNode) (secret : Option (List ℕ)) (keys : PrivateKeys) → leaf_of t i ≡ Some y → leaf_of t leaf ≡ Some x → (leaf ≡ i → ⊥) → c.public k.leaf ≡ x.encryption_key →
    joined_keys c t i (alone_at k leaf) secret ≡ Ok keys → KeysDid c t leaf keys
unfolding joined_keys alone_at
keys_did c k t i leaf x y None keys there here ne own h =
    let s = require_ok 35 (has_due t (alone_at k leaf)) _ _ h in
    subst (KeysDid c t leaf) (ok_is (alone_at k leaf) keys s.1) (keys_alone c k t leaf x (leaf_is_in t leaf x here).1 own s.0)
keys_did c k t i leaf x y (Some secret) keys there here ne own h =
    let s = bind_ok (take_answer c t i leaf k.leaf secret) _ _ h in
    let hi = inside t i y there in
    let exact = take_exact c t i leaf x k.leaf secret s.0 hi (inside t leaf x here) ne (leaf_is_in t leaf x here).1 own (sym (take_inside c t i leaf k.leaf secret hi) ∙ s.1) in
    subst (KeysDid c t leaf) (ok_is _ keys s.2) (record { exact = exact_written c t (alone_at k leaf) s.0.keys exact; same = leaf_stays (alone_at k leaf) s.0.keys })

-- ---- it is good

-- its leaf is the candidate's
record PlaceDid (k : Candidate) (t : Term) (place : ℕ × LeafNode) : Type 0 where
  same : place.1 ≡ k.offered.leaf_node
  is : leaf_of t place.0 ≡ Some place.1

place_did : (c : Crypto) (k : Candidate) (t : Term) (place : ℕ × LeafNode) → IsGoodCandidate c k → PartsFit t → place_of k.offered.leaf_node t ≡ Some place → PlaceDid k t place
unfolding place_of
place_did c k t place good parts h =
    let f = was_found (λ (x : ℕ × LeafNode). is_same_leaf x.1 k.offered.leaf_node) place (members 0 t) h in
    record {
      same = one_spelled leaf_node place.1 k.offered.leaf_node (at_one FitsAt place (members 0 t) (members_fit 0 t parts) f.0) (package_leaf k.offered good.package_of) ((bytes_eq-Decides _ _).0 f.1);
      is = stands_in t place f.0;
    }

apart_by : (i j : ℕ) (t : Term) (x y : LeafNode) → leaf_of t i ≡ Some x → leaf_of t j ≡ Some y → not (bytes_eq x.signature_key y.signature_key) ≡ true → j ≡ i → ⊥
apart_by i j t x y a b other e =
    let same : x ≡ y = (let d = ap (leaf_of t) e in cc) in
    let t1 : bytes_eq x.signature_key y.signature_key ≡ true = (bytes_eq-Decides _ _).1 (ap (λ (z : LeafNode). z.signature_key) same) in
    let n = rw t1 at other in
    absurd cc

became_good : (c : Crypto) (k : Candidate) (o : Opened) (t : Term) (keys : PrivateKeys) → IsGoodCandidate c k → HasOpened c o → group_context.Fits o.info.group_context → TreeDid c o.info t → IsGood (rules_of c o.info.group_context.group_id) t → PartsFit t →
    leaf_of t keys.leaf ≡ Some k.offered.leaf_node → HasExact c t keys → IsGoodMember c (joined_by k o t keys).member
unfolding joined_by
became_good c k o t keys good opened context tree is_good parts own exact = record {
  tree = is_good;
  hash = tree.hash;
  suite = opened.suite;
  own = k.offered.leaf_node;
  is_own = own;
  signing = good.signing;
  keys = exact;
  kept = tt;
  pending = tt;
  context = context;
  nodes = good_nodes_fit c (record { context = o.info.group_context; tree = t; interim = [] }) t is_good parts;
}

-- Whatever Welcome it was given, a candidate that joins is a good member.
pub joined_good : (c : Crypto) (k : Candidate) (bytes : List ℕ) (joined : JoinedMember) → IsGoodCandidate c k → join_verdict c k bytes ≡ Ok joined → IsGoodMember c joined.member
unfolding join_verdict
joined_good c k bytes joined good h =
    let s = bind_ok (opened_welcome c k bytes) _ _ h in
    let o : Opened = s.0 in
    let opened = has_opened c k bytes o s.1 in
    let m = member_did c k o joined s.2 in
    let tree = tree_did c o.info m.tree m.is_tree in
    let fits : group_info.Fits o.info = (whole_takes group_info input_limit o.bytes o.info opened.bytes opened.reads).fits in
    let parts = info_parts o.info fits in
    let cells = cells_in tree.nodes (one_in o.info.ratchet_tree tree.nodes tree.are_nodes parts.1) in
    let is_good = taken_good c o.info.group_context.group_id tree.nodes m.tree cells tree.sent tree.checks in
    let fit = taken_parts tree.nodes m.tree cells tree.sent in
    let place = place_did c k m.tree m.place good fit m.is_place in
    let here : leaf_of m.tree m.place.0 ≡ Some k.offered.leaf_node = place.is ∙ ap Some place.same in
    let signer = signer_did c k o.info m.tree m.signer in
    let keys = keys_did c k m.tree o.info.signer m.place.0 k.offered.leaf_node signer.leaf o.path_secret m.keys signer.is_leaf here
    (apart_by o.info.signer m.place.0 m.tree signer.leaf k.offered.leaf_node signer.is_leaf here signer.other) (sym good.leaf) m.are_keys in
    subst (λ (j : JoinedMember). IsGoodMember c j.member) m.is (became_good c k o m.tree m.keys good opened parts.0 tree is_good fit (ap (leaf_of m.tree) keys.same ∙ here) keys.exact)
