-- The joiners' claim.
use Rattle.std.proofs.Common.{◌≡◌, ℕ, true, false, List, [], length, zip, Option, Some, None, Ok, refl, sym, ap, subst, ◌∙◌, arith}
use Rattle.std.specs.Prelude.{◌≢◌}
use Rattle.std.specs.List.{list_any}
use Rattle.std.specs.Str.{bytes_eq}
use Rattle.mls_wire.specs.Checks.{passed}
use Rattle.mls_wire.proofs.CheckLaws.{require_ok, bind_ok}
use Rattle.mls_wire.specs.Laws.{ok_is}
use Rattle.mls_leaf.specs.KeyPackage.{key_package}
use Rattle.mls_leaf.specs.declared.key_package.KeyPackage.{KeyPackage}
use Rattle.mls_leaf.specs.declared.leaf.LeafNode.{LeafNode}
use Rattle.mls_types.specs.GroupContext.{group_context}
use Rattle.mls_types.specs.GroupInfo.{group_info}
use Rattle.mls_types.specs.declared.commit.ProposalOrRef.{ProposalOrRef}
use Rattle.mls_suite.specs.Crypto.{Crypto, Lawful}
use Rattle.mls_tree_model.specs.Arrays.{to_nodes}
use Rattle.mls_tree_model.specs.Term.{Term, leaf_of}
use Rattle.mls_treekem_model.specs.Join.{take_answer}
use Rattle.mls_treekem_model.specs.Keys.{PrivateKeys}
use Rattle.mls_treekem_model.specs.Laws.{AreTwo}
use Rattle.mls_schedule.specs.Epoch.{epoch_secret, confirmation_tag}
use Rattle.mls_schedule.proofs.Lengths.{length-joiner_secret}
use Rattle.mls_model.specs.MemberInvariant.{IsGoodCandidate}
use Rattle.mls_model.specs.Candidate.{Candidate}
use Rattle.mls_model.specs.Claims.{IsMade, JoinsTo, JoinersClaim}
use Rattle.mls_model.specs.Commit.{Edits, Change, apply_path_if, public_with}
use Rattle.mls_model.specs.Join.{JoinedMember, joined_tree, signer_checks, place_of, joined_keys, member_of, join_verdict}
use Rattle.mls_model.specs.Journal.{adds_in}
use Rattle.mls_model.proofs.KeyLaws.{leaf_stays}
use Rattle.mls_model.specs.Make.{MadePath, Made, path_secret_for, path_seals}
use Rattle.mls_model.specs.Member.{Member}
use Rattle.mls_model.specs.OpenedWelcome.{Opened, opened_welcome}
use Rattle.mls_model.specs.Proposals.{adds, extensions_after}
use Rattle.mls_model.specs.Welcome.{unsigned_info, signed_info}
use Rattle.mls_treekem_model.specs.Seeds.{seal_seed}
use Rattle.mls_theorems.proofs.Staying.{edits_follow_committer}
use Rattle.mls_theorems.specs.CommitLaws.{HasLeaves}
use Rattle.mls_theorems.proofs.Clients.{clients_apart}
use Rattle.mls_theorems.proofs.Info.{info_fits}
use Rattle.mls_theorems.proofs.JoinChecks.{tree_is_taken, signer_passes, joins_at}
use Rattle.mls_theorems.proofs.Joins.{info_made, secret_made, secrets_made, Joining, joining, next_of_made, leaves_of_made, sent_32}
use Rattle.mls_theorems.specs.CommitCalls.{commit_of, said_of, signature_of, joiner_of, epoch_of, tag_of, made_of, Makes}
use Rattle.mls_theorems.proofs.Makes.{make_did}
use Rattle.mls_theorems.specs.NextStates.{IsNext}
use Rattle.mls_theorems.proofs.Next.{place_found}
use Rattle.mls_theorems.proofs.Nodes.{sent_nodes_fit}
use Rattle.mls_theorems.specs.OpenedPaths.{IsChange}
use Rattle.mls_theorems.proofs.Opened.{body_did, same_edits}
use Rattle.mls_theorems.proofs.Sent.{leaf_is_in, leaf_short, path_did, within_is}
use Rattle.mls_theorems.proofs.Spelled.{package_leaf}
use Rattle.mls_theorems.proofs.Stays.{taken, inside}
use Rattle.mls_theorems.specs.JoinerKeys.{TakesKeys}
use Rattle.mls_theorems.proofs.JoinerKeys.{keys_taken}
use Rattle.mls_theorems.proofs.Welcomed.{welcome_opens}

joiner_32 : (m : Member) (path : MadePath) (change : Change) → length (joiner_of m path change) ≡ 32
unfolding joiner_of
joiner_32 m path change = length-joiner_secret _ _ _

-- a candidate joins the maker at another leaf
pub record JoinsBeside (c : Crypto) (m : Member) (k : Candidate) (welcome : List ℕ) (made : Made) : Type 0 where
  pub to : JoinsTo c k welcome made
  pub active : to.joined.member.gone ≡ false
  pub apart : m.keys.leaf ≢ to.joined.member.keys.leaf

-- its keys are those of its leaf
keys_at : (c : Crypto) (t : Term) (signer leaf : ℕ) (own : List ℕ) (secret : Option (List ℕ)) (keys : PrivateKeys) → joined_keys c t signer (record { leaf = leaf; own = own; above = [] }) secret ≡ Ok keys → keys.leaf ≡ leaf
unfolding joined_keys
keys_at c t signer leaf own None keys h =
    let s = require_ok _ _ _ _ h in
    ap (λ (x : PrivateKeys). x.leaf) (sym (ok_is _ keys s.1))
keys_at c t signer leaf own (Some secret) keys h =
    let s = bind_ok (take_answer c t signer leaf own secret) _ _ h in
    ap (λ (x : PrivateKeys). x.leaf) (sym (ok_is _ keys s.2)) ∙ leaf_stays (record { leaf = leaf; own = own; above = [] }) s.0.keys

one_leaf : (x y : LeafNode) (o : Option LeafNode) → o ≡ Some x → o ≡ Some y → x ≡ y
one_leaf x y o a b = cc

module _ (c : Crypto) (laws : Lawful c) (m : Member) (list : List ProposalOrRef) (made : Made) (is : IsMade c m list made) (s : Makes c m list is.wants_path is.seed made) (welcome : List ℕ) (k : Candidate) (good : IsGoodCandidate c k)
    (j : Joining c m list made is s welcome k) where
  next : IsNext c s.change
  next = next_of_made c m list made is s

  leaves : HasLeaves m.keys.leaf m.public s.change
  leaves = leaves_of_made c m list made is s

  change_did : IsChange c m.public m.keys.leaf s.used (commit_of list s.path) s.change
  change_did = body_did c m.public m.keys.leaf s.used (commit_of list s.path) (said_of m list s.path) (signature_of c m list s.path) s.change s.change_is

  same : s.change.edits ≡ s.edits
  same = same_edits c m.public m.keys.leaf s.used s.change.edits s.edits change_did.edits_are s.edits_are

  -- 70 to 75: the candidate opens it
  fits : group_info.Fits (info_made c m s.path s.change)
  unfolding signed_info unsigned_info public_with
  fits =
      let low = within_is _ j.sent.info_short in
      info_fits s.change.context (to_nodes s.change.tree) (tag_of m s.path s.change) m.keys.leaf _ next.context (sent_nodes_fit s.change.tree next.nodes) (leaf_short c m is.good) (omega arith)

  opened : Opened
  opened = record {
    joiner = joiner_of m s.path s.change;
    path_secret = secret_made m s.path s.change is.seed j.entry.leaf;
    bytes = group_info.spell (info_made c m s.path s.change);
    info = info_made c m s.path s.change;
  }

  suite : (info_made c m s.path s.change).group_context.cipher_suite ≡ c.number
  unfolding signed_info unsigned_info public_with
  suite = next.suite

  opens : opened_welcome c k welcome ≡ Ok opened
  unfolding opened
  opens = welcome_opens c laws laws.number_short (info_made c m s.path s.change) (joiner_of m s.path s.change) (secrets_made m s.path s.change is.seed) (seal_seed is.seed) (path_seals s.path.path) (zip (adds s.used) s.edits.added) welcome j.sent k
      j.entry.offered (secret_made m s.path s.change is.seed j.entry.leaf) j.entry.seed j.entry.entry j.entry.is_found (ap (λ (x : KeyPackage). x.init_key) j.offered ∙ good.init) j.entry.is_made
      (joiner_32 m s.path s.change) (sent_32 s.path.path m s.change.edits is.seed j.entry.leaf) fits suite

  -- 76, 20, 21, 77 and the checks of the tree
  tree : joined_tree c (info_made c m s.path s.change) ≡ Ok s.change.tree
  unfolding public_with
  tree = tree_is_taken c m.signing (public_with s.change (tag_of m s.path s.change)) (tag_of m s.path s.change) m.keys.leaf next.good next.hash

  -- the candidate's leaf is where it was added
  stands : leaf_of s.change.tree j.entry.leaf ≡ Some k.offered.leaf_node
  stands = leaves.others j.entry.leaf j.joins.other ∙ ap (λ (e : Edits). leaf_of e.tree j.entry.leaf) same ∙ j.joins.leaf ∙ ap (λ (x : KeyPackage). Some x.leaf_node) j.offered

  -- 78 and 79
  signer : signer_checks c k (info_made c m s.path s.change) s.change.tree ≡ Ok passed
  unfolding public_with
  signer =
      let before : leaves.before ≡ is.good.own = one_leaf leaves.before is.good.own (leaf_of m.public.tree m.keys.leaf) leaves.was is.good.is_own in
      let key : leaves.after.signature_key ≡ c.sig_public m.signing = leaves.signature ∙ ap (λ (x : LeafNode). x.signature_key) before ∙ is.good.signing in
      signer_passes c laws k m.signing (public_with s.change (tag_of m s.path s.change)) (tag_of m s.path s.change) m.keys.leaf leaves.after leaves.is key
      (clients_apart s.change.tree m.keys.leaf j.entry.leaf leaves.after k.offered.leaf_node next.good.clients leaves.is stands (λ e. j.joins.other (sym e)))

  -- 80
  place : place_of k.offered.leaf_node s.change.tree ≡ Some (j.entry.leaf, k.offered.leaf_node)
  place = place_found s.change.tree j.entry.leaf k.offered.leaf_node next.good.clients next.parts (package_leaf k.offered good.package_of) stands

  -- 34 and 35
  merges : apply_path_if c m.public m.keys.leaf s.edits s.path.path ≡ Ok s.change.tree
  unfolding commit_of
  merges = sym (ap (λ (e : Edits). apply_path_if c m.public m.keys.leaf e s.path.path) same) ∙ change_did.merges

  keys : TakesKeys c s.change.tree m.keys.leaf j.entry.leaf k.leaf (secret_made m s.path s.change is.seed j.entry.leaf)
  keys =
      let kept = edits_follow_committer c m.public m.keys.leaf s.used s.edits s.edits_are (taken _ _ is.good.own is.good.is_own) in
      let two : AreTwo 0 s.edits.tree m.keys.leaf j.entry.leaf = record {
        first = inside s.edits.tree m.keys.leaf is.good.own (kept.leaf ∙ is.good.is_own);
        second = inside s.edits.tree j.entry.leaf j.entry.offered.leaf_node j.joins.leaf;
        apart = j.joins.other;
      } in
      let public : c.public k.leaf ≡ j.entry.offered.leaf_node.encryption_key = sym (ap (λ (x : KeyPackage). x.leaf_node.encryption_key) j.offered ∙ good.leaf) in
      subst (λ (e : Edits). TakesKeys c s.change.tree m.keys.leaf j.entry.leaf k.leaf (path_secret_for s.path.path m e is.seed j.entry.leaf)) (sym same)
      (keys_taken c m (extensions_after m.public.context.extensions s.used) s.edits is.seed s.path s.change.tree j.entry.leaf j.entry.offered.leaf_node k.leaf (path_did c m s.used s.edits is.wants_path is.seed s.path s.path_is) merges two
      (leaf_is_in s.edits.tree j.entry.leaf j.entry.offered.leaf_node j.joins.leaf).1 public j.joins.listed)

  -- 65, and the whole
  joined : JoinedMember
  joined = record {
    member = record { gone = false; public = public_with s.change (tag_of m s.path s.change); epoch_secret = epoch_secret (joiner_of m s.path s.change) (group_context.spell s.change.context); keys = keys.0; signing = k.signing; kept = []; pending = None };
    info = group_info.spell (info_made c m s.path s.change);
  }

  confirmed : tag_of m s.path s.change ≡ confirmation_tag (epoch_secret (joiner_of m s.path s.change) (group_context.spell s.change.context)) s.change.context.confirmed_transcript_hash
  unfolding tag_of epoch_of
  confirmed = refl

  becomes : member_of c k opened ≡ Ok joined
  unfolding opened joined public_with
  becomes = joins_at c k m.signing s.change (joiner_of m s.path s.change) (tag_of m s.path s.change) m.keys.leaf (secret_made m s.path s.change is.seed j.entry.leaf) (j.entry.leaf, k.offered.leaf_node) keys.0 tree signer place keys.1 confirmed

  pub joins_beside : JoinsBeside c m k welcome made
  unfolding joined join_verdict made_of epoch_of
  joins_beside = record {
    to = record {
      joined = joined;
      is = rw opens becomes;
      public = ap (λ (x : Made). x.pending.public) s.made_is;
      epoch = ap (λ (x : Made). x.pending.epoch_secret) s.made_is;
    };
    active = refl;
    apart = λ e. j.joins.other (sym (e ∙ keys_at c s.change.tree m.keys.leaf j.entry.leaf k.leaf (secret_made m s.path s.change is.seed j.entry.leaf) keys.0 keys.1));
  }

-- A made Welcome passes the join verdict of each candidate whose own KeyPackage the commit adds, which then stands at
-- another leaf than the maker.
pub joiners_beside : (c : Crypto) → Lawful c → (m : Member) (list : List ProposalOrRef) (made : Made) (welcome : List ℕ) (k : Candidate) → IsMade c m list made → made.welcome ≡ Some welcome → IsGoodCandidate c k →
    list_any (bytes_eq (key_package.spell k.offered)) (adds_in m.kept list) ≡ true → JoinsBeside c m k welcome made
joiners_beside c laws m list made welcome k is w good any =
    let s = make_did c m list is.wants_path is.seed made is.is in
    joins_beside c laws m list made is s welcome k good (joining c m list made is s welcome k w good any)

pub joiners_hold : JoinersClaim
joiners_hold c laws m list made welcome k is w good any = (joiners_beside c laws m list made welcome k is w good any).to
