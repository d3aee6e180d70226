-- What a receiver of a made commit opens.
use Rattle.std.proofs.Common.{◌≡◌, ℕ, ◌==◌, true, List, ◌∷◌, length, Option, Some, Result, Ok, sym, ap, subst, ◌∙◌, inl, inr, replicate}
use Rattle.std.specs.List.{list_all}
use Rattle.std.specs.Str.{bytes_eq}
use Rattle.mls_leaf.specs.declared.extension.Extension.{Extension}
use Rattle.mls_leaf.specs.declared.leaf.LeafNode.{LeafNode}
use Rattle.mls_wire.specs.Checks.{passed}
use Rattle.mls_wire.specs.Laws.{ok_is}
use Rattle.mls_kdf.proofs.Lengths.{length-derive_secret}
use Rattle.mls_types.specs.GroupContext.{group_context}
use Rattle.mls_types.specs.declared.group_context.GroupContext.{GroupContext}
use Rattle.mls_types.specs.declared.update_path.UpdatePath.{UpdatePath}
use Rattle.mls_types.specs.declared.commit.ProposalOrRef.{ProposalOrRef}
use Rattle.mls_suite.specs.Crypto.{Crypto, Lawful}
use Rattle.mls_checks.specs.Checks.{replacement_checks}
use Rattle.mls_checks.specs.declared.checks.LeafUse.TheVariants as leaf_node_source
use Rattle.mls_tree_model.specs.Term.{Term}
use Rattle.mls_tree_model.specs.Way.{path_length}
use Rattle.mls_tree.specs.Tree.{member_at}
use Rattle.mls_tree.specs.Paths.{merge_answer}
use Rattle.mls_treekem_model.specs.Chain.{chain, keys_of_path}
use Rattle.mls_treekem_model.specs.Keys.{PrivateKeys, all_keys, keys_on}
use Rattle.mls_treekem_model.specs.Make.{Climb}
use Rattle.mls_treekem_model.proofs.MakeLaws.{count_is_length}
use Rattle.mls_treekem_model.specs.Seal.{sealed_path}
use Rattle.mls_treekem_model.specs.Seeds.{seal_seed}
use Rattle.mls_treekem_model.proofs.WholeLaws.{sealed_keys, opened_agrees}
use Rattle.mls_model.specs.PublicState.{PublicState, Used, provisional_context, confirmed_context}
use Rattle.mls_model.specs.Proposals.{extensions_after}
use Rattle.mls_treekem_model.specs.Seeds.{path_seed}
use Rattle.mls_model.specs.Commit.{Edits, Change, apply_proposals, node_keys, cipher_counts, due_counts, apply_update_path, apply_path_if, change_of, change_of_commit}
use Rattle.mls_model.specs.Member.{Member, with_keys, follow_edits, keys_after_edits}
use Rattle.mls_model.specs.Make.{MadePath, committed_leaf, no_path}
use Rattle.mls_model.specs.Verdict.{open_path_secret}
use Rattle.mls_wire.proofs.CheckLaws.{require_ok, then_ok, bind_ok}
use Rattle.mls_theorems.specs.CommitCalls.{commit_of}
use Rattle.mls_theorems.specs.SentCommits.{IsNewPath}
use Rattle.mls_theorems.specs.OpenedPaths.{BodyDid, Stays, Climbs, ReceiverClimbs}

-- ---- what a commit makes of the public state

abbrev good_edits : Edits → Result Edits ℕ
good_edits e = Ok e

abbrev good_tree : Term → Result Term ℕ
good_tree t = Ok t

pub body_did : BodyDid
unfolding change_of_commit change_of provisional_context confirmed_context
body_did c p committer used commit said signature change h =
    let s1 = bind_ok _ _ _ h in
    let s2 = require_ok _ _ _ _ s1.2 in
    let s3 = bind_ok _ _ _ s2.1 in
    let is = ok_is _ _ s3.2 in
    let e : s1.0 ≡ change.edits = ap (λ (x : Change). x.edits) is in
    let t : s3.0 ≡ change.tree = ap (λ (x : Change). x.tree) is in
    record {
      edits_are = s1.1 ∙ ap (λ (x : Edits). good_edits x) e;
      path_there = s2.0;
      merges = sym (ap (λ (x : Edits). apply_path_if c p committer x commit.path) e) ∙ s3.1 ∙ ap (λ (x : Term). good_tree x) t;
      provisional_is = sym (ap (λ (x : Change). x.provisional) is) ∙ ap (λ (x : Term). provisional_context p.context (extensions_after p.context.extensions used) x) t;
      epoch_is = sym (ap (λ (x : Change). x.context.epoch) is);
    }

-- its edits are those that were made first
pub same_edits : (c : Crypto) (p : PublicState) (committer : ℕ) (used : List Used) (d e : Edits) → apply_proposals c p committer used ≡ Ok d → apply_proposals c p committer used ≡ Ok e → d ≡ e
same_edits c p committer used d e f g = ok_is d e (sym f ∙ g)

-- a path was merged
record IsMerged (c : Crypto) (p : PublicState) (committer : ℕ) (e : Edits) (path : UpdatePath) (t : Term) : Type 0 where
  old : LeafNode
  is_old : member_at p.tree committer ≡ Ok old
  checks : replacement_checks c path.leaf_node old leaf_node_source.Commit p.context.group_id committer ≡ Ok passed
  nodes : (length path.nodes == path_length 0 e.tree committer) ≡ true
  ciphers : bytes_eq (cipher_counts path) (due_counts e committer) ≡ true
  fit : list_all c.key_ok (path.leaf_node.encryption_key ∷ node_keys path) ≡ true
  merges : merge_answer e.tree committer path.leaf_node (node_keys path) ≡ Ok t

with_path_did : (c : Crypto) (p : PublicState) (committer : ℕ) (e : Edits) (path : UpdatePath) (t : Term) → apply_update_path c p committer e path ≡ Ok t → IsMerged c p committer e path t
unfolding apply_update_path
with_path_did c p committer e path t h =
    let s1 = bind_ok _ _ _ h in
    let s2 = then_ok _ _ _ s1.2 in
    let s3 = require_ok _ _ _ _ s2.1 in
    let s4 = require_ok _ _ _ _ s3.1 in
    let s5 = require_ok _ _ _ _ s4.1 in
    record { old = s1.0; is_old = s1.1; checks = s2.0; nodes = s3.0; ciphers = s4.0; fit = s5.0; merges = s5.1 }

pub merged_did : (c : Crypto) (p : PublicState) (committer : ℕ) (e : Edits) (path : UpdatePath) (t : Term) → apply_path_if c p committer e (Some path) ≡ Ok t → merge_answer e.tree committer path.leaf_node (node_keys path) ≡ Ok t
unfolding apply_path_if
merged_did c p committer e path t h = (with_path_did c p committer e path t h).merges

-- with a path
climbs_path : (c : Crypto) → Lawful c → (maker m : Member) (list : List ProposalOrRef) (carried : List Extension) (e : Edits) (seed : List ℕ) (path : MadePath) (change : Change) (new : IsNewPath c maker carried e seed path) →
    change.edits ≡ e → change.provisional ≡ provisional_context maker.public.context carried new.tree → Stays c m maker.keys.leaf list change.edits → Climbs c m maker.keys.leaf list path change
unfolding open_path_secret follow_edits with_keys path_seed
climbs_path c laws maker m list carried e seed path change new same context stays =
    let start : List ℕ = path_seed seed in
    let i : ℕ = maker.keys.leaf in
    let keys : PrivateKeys = keys_after_edits m list change.edits.tree in
    let spelled : List ℕ = group_context.spell change.provisional in
    let sealed0 : sealed_path c spelled e.added (seal_seed seed) e.tree i start ≡ Ok new.nodes = ap (λ (x : GroupContext). sealed_path c (group_context.spell x) e.added (seal_seed seed) e.tree i start) context ∙ new.nodes_are in
    let sealed : sealed_path c spelled change.edits.added (seal_seed seed) change.edits.tree i start ≡ Ok new.nodes =
    ap (λ (x : Edits). sealed_path c spelled x.added (seal_seed seed) x.tree i start) same ∙ sealed0 in
    let o = opened_agrees c laws spelled change.edits.added (seal_seed seed) change.edits.tree i m.keys.leaf start (keys_on change.edits.tree keys) new.nodes (length-derive_secret _ _) stays.two stays.lists stays.exact.keys stays.old sealed in
    record {
      climb = o.0;
      is = ap (λ (x : Option UpdatePath). open_path_secret c m i change keys x) new.path_is ∙ o.1;
      secret =
          o.2
          ∙ ap (λ (x : Edits). chain start (path_length 0 x.tree i)) same
          ∙ ap (λ (n : ℕ). chain start n) (sym (count_is_length 0 e.tree i))
          ∙ sym (ap (λ (x : Climb). x.secret) new.climb_is);
    }

-- without one
climbs_alone : (c : Crypto) (m maker : Member) (list : List ProposalOrRef) (e : Edits) (path : MadePath) (change : Change) → path ≡ no_path maker e → Climbs c m maker.keys.leaf list path change
unfolding open_path_secret no_path
climbs_alone c m maker list e path change is =
    let keys : PrivateKeys = keys_after_edits m list change.edits.tree in
    record {
      climb = record { secret = replicate 32 0; keys = all_keys keys };
      is = ap (λ (x : MadePath). open_path_secret c m maker.keys.leaf change keys x.path) is;
      secret = sym (ap (λ (x : MadePath). x.climb.secret) is);
    }

-- the path that was sealed is the one that is merged, under one context
pub one_tree : (c : Crypto) (maker : Member) (carried : List Extension) (e : Edits) (seed : List ℕ) (path : MadePath) (t : Term) (new : IsNewPath c maker carried e seed path) → apply_path_if c maker.public maker.keys.leaf e path.path ≡ Ok t → t ≡ new.tree
one_tree c maker carried e seed path t new h =
    let made : UpdatePath = record { leaf_node = committed_leaf c maker e new.old seed; nodes = new.nodes } in
    let done : merge_answer e.tree maker.keys.leaf made.leaf_node (node_keys made) ≡ Ok t =
    merged_did c maker.public maker.keys.leaf e made t (sym (ap (λ (x : Option UpdatePath). apply_path_if c maker.public maker.keys.leaf e x) new.path_is) ∙ h) in
    let keys : node_keys made ≡ keys_of_path c e.tree maker.keys.leaf (path_seed seed) = sealed_keys c _ e.added (seal_seed seed) e.tree maker.keys.leaf (path_seed seed) new.nodes new.nodes_are in
    ok_is t new.tree (sym done ∙ ap (λ (ks : List (List ℕ)). merge_answer e.tree maker.keys.leaf made.leaf_node ks) keys ∙ new.tree_is)

pub receiver_climbs : ReceiverClimbs
unfolding commit_of
receiver_climbs c laws maker m list used e seed path change (inl new) edits is stays =
    let carried : List Extension = extensions_after maker.public.context.extensions used in
    let same : change.edits ≡ e = same_edits c maker.public maker.keys.leaf used change.edits e is.edits_are edits in
    let tree : change.tree ≡ new.tree = one_tree c maker carried e seed path change.tree new (sym (ap (λ (x : Edits). apply_path_if c maker.public maker.keys.leaf x path.path) same) ∙ is.merges) in
    climbs_path c laws maker m list carried e seed path change new same (is.provisional_is ∙ ap (λ (t : Term). provisional_context maker.public.context carried t) tree)
    (subst (λ (x : Edits). Stays c m maker.keys.leaf list x) (sym same) stays)
receiver_climbs c laws maker m list used e seed path change (inr none) edits is stays = climbs_alone c m maker list e path change none
