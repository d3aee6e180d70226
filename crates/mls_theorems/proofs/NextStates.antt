-- A commit keeps a good tree.
use Rattle.std.proofs.Common.{◌≡◌, ◌≢◌, ℕ, ◌<◌, List, [], Option, Some, None, Ok, refl, sym, ◌∙◌, ap, subst, arith, inl, inr, ne_eqb}
use Rattle.std.proofs.lemmas.Bool.{cases_lt, cond-false}
use Rattle.mls_leaf.specs.declared.leaf.LeafNode.{LeafNode}
use Rattle.mls_types.specs.declared.group_context.GroupContext.{GroupContext}
use Rattle.mls_types.specs.declared.update_path.UpdatePath.{UpdatePath}
use Rattle.mls_suite.specs.Crypto.{Crypto}
use Rattle.mls_checks.specs.declared.checks.LeafUse.TheVariants as leaf_node_source
use Rattle.mls_tree_model.specs.Term.{Term, width, leaf_at, leaf_of}
use Rattle.mls_tree_model.specs.Merge.{merge_path}
use Rattle.mls_tree_model.proofs.Equations.{leaf_of_in, leaf_of_out}
use Rattle.mls_tree_model.specs.Good.{IsSound, has_distinct_clients}
use Rattle.mls_tree_model.proofs.SoundLaws.{sound_of_good, good_of_sound}
use Rattle.mls_tree_model.specs.Edits.{put}
use Rattle.mls_tree_model.proofs.PlaceLaws.{leaf_at-put, leaf_at-merge}
use Rattle.mls_tree_model.proofs.MergeLaws.{width-merge}
use Rattle.mls_tree_model.proofs.PathLaws.{sound_merge_path}
use Rattle.mls_tree.specs.Rules.{rules_of}
use Rattle.mls_model.specs.PublicState.{PublicState, provisional_context, confirmed_context}
use Rattle.mls_model.specs.Commit.{Edits, node_keys, apply_update_path, apply_path_if}
use Rattle.mls_theorems.specs.CommitLaws.{HasGood, GoodNext, ContextOfTree, LeavesNext}
use Rattle.mls_theorems.proofs.Inversion.{edited_steps, with_path_steps, body_steps}
use Rattle.mls_tree_model.proofs.TakenLaws.{Taken, taken_at, at_taken, some_at, put_taken}
use Rattle.mls_theorems.proofs.Staying.{kept_by}
use Rattle.mls_checks.proofs.LeafLaws.{replaced_steps}
use Rattle.mls_tree_model.proofs.ClientLaws.{distinct_clients-merge_path}
use Rattle.mls_tree.proofs.FitLaws.{replacement_fit}
use Rattle.mls_theorems.proofs.Sound.{edits_good}

good_with_path : (c : Crypto) (p : PublicState) (i : ℕ) (e : Edits) (path : UpdatePath) (t : Term) → HasGood c p e.tree → leaf_of e.tree i ≡ leaf_of p.tree i → apply_update_path c p i e path ≡ Ok t → HasGood c p t
good_with_path c p i e path t g leaf h =
    let rules = rules_of c p.context.group_id in
    let w = with_path_steps c p i e path t h in
    let r = replaced_steps c path.leaf_node w.old leaf_node_source.Commit p.context.group_id i w.replaced in
    let at = taken_at e.tree i w.old (leaf ∙ w.is_old) in
    let fit = replacement_fit c p.context.group_id path.leaf_node w.old leaf_node_source.Commit i (node_keys path) w.replaced w.fit in
    let sound = sound_merge_path rules e.tree i path.leaf_node (node_keys path) (sound_of_good rules e.tree g) at.inside w.key_count w.hash fit in
    let clients = distinct_clients-merge_path e.tree i path.leaf_node w.old (node_keys path) (leaf ∙ w.is_old) r.signature ∙ g.clients in
    good_of_sound rules t (subst (IsSound rules) (sym w.tree) sound) w.keys (ap has_distinct_clients w.tree ∙ clients)

good_merged : (c : Crypto) (p : PublicState) (i : ℕ) (e : Edits) (path : Option UpdatePath) (t : Term) → HasGood c p e.tree → leaf_of e.tree i ≡ leaf_of p.tree i → apply_path_if c p i e path ≡ Ok t → HasGood c p t
unfolding apply_path_if
good_merged c p i e None t g leaf h = let is : e.tree ≡ t = cc in subst (HasGood c p) is g
good_merged c p i e (Some path) t g leaf h = good_with_path c p i e path t g leaf h

pub good_next : GoodNext
good_next c p i used commit said signature change g before some h =
    let b = body_steps c p i used commit said signature change h in
    let s = edited_steps c p i used change.edits b.edits in
    let x = some_at (leaf_of p.tree i) some in
    let kept = kept_by c p i used change.edits i x.0 s x.1 s.not_updated s.not_removed in
    good_merged c p i change.edits commit.path change.tree (edits_good c p i used change.edits g before some b.edits) kept.leaf b.path_merged

pub context_of_tree : ContextOfTree
unfolding provisional_context confirmed_context
context_of_tree c p i used commit said signature change h =
    let b = body_steps c p i used commit said signature change h in (
      ap (λ (g : GroupContext). g.tree_hash) (b.context) ∙ ap (λ (g : GroupContext). g.tree_hash) b.provisional,
      ap (λ (g : GroupContext). g.group_id) (b.context) ∙ ap (λ (g : GroupContext). g.group_id) b.provisional,
      ap (λ (g : GroupContext). g.cipher_suite) (b.context) ∙ ap (λ (g : GroupContext). g.cipher_suite) b.provisional,
    )

-- ---- leaves

-- what a path leaves of a tree's leaves
record IsMerged (i : ℕ) (before : LeafNode) (t u : Term) : Type 0 where
  after : LeafNode
  taken : Taken i after u
  signature : after.signature_key ≡ before.signature_key
  others : (j : ℕ) → j ≢ i → leaf_of u j ≡ leaf_of t j
  width_is : width u ≡ width t

width_path : (t : Term) (i : ℕ) (x : LeafNode) (keys : List (List ℕ)) → width (merge_path t i x keys) ≡ width t
unfolding merge_path
width_path t i x keys = width-merge 0 t i _ [] x

leaf_path : (t : Term) (i : ℕ) (x : LeafNode) (keys : List (List ℕ)) (j : ℕ) → leaf_at 0 (merge_path t i x keys) j ≡ leaf_at 0 (put 0 t i (Some x)) j
unfolding merge_path
leaf_path t i x keys j = leaf_at-merge 0 t i _ [] x j

path_taken : (t : Term) (i : ℕ) (x : LeafNode) (keys : List (List ℕ)) → i < width t → Taken i x (merge_path t i x keys)
path_taken t i x keys inside =
    let w = width_path t i x keys in
    let put = put_taken t i x inside in
    record { inside = omega arith; leaf = leaf_path t i x keys i ∙ put.leaf }

path_others : (t : Term) (i : ℕ) (x : LeafNode) (keys : List (List ℕ)) (j : ℕ) → i < width t → j ≢ i → leaf_of (merge_path t i x keys) j ≡ leaf_of t j
path_others t i x keys j inside ne =
    let w = width_path t i x keys in
    elim (cases_lt j (width t)) [
      | inl lt ↦
          leaf_of_in (merge_path t i x keys) j (omega arith)
          ∙ leaf_path t i x keys j
          ∙ leaf_at-put 0 t i (Some x) j (omega arith) (omega arith) (omega arith) (omega arith)
          ∙ cond-false _ _ _ (ne_eqb j i ne)
          ∙ sym (leaf_of_in t j lt)
      | inr ge ↦ leaf_of_out (merge_path t i x keys) j (omega arith) ∙ sym (leaf_of_out t j ge)
    ]

leaves_with_path : (c : Crypto) (p : PublicState) (i : ℕ) (e : Edits) (path : UpdatePath) (t : Term) (before : LeafNode) → leaf_of p.tree i ≡ Some before → Taken i before e.tree → apply_update_path c p i e path ≡ Ok t → IsMerged i before e.tree t
leaves_with_path c p i e path t before was at h =
    let w = with_path_steps c p i e path t h in
    let r = replaced_steps c path.leaf_node w.old leaf_node_source.Commit p.context.group_id i w.replaced in
    let old : w.old ≡ before = (let a = w.is_old in cc) in
    subst (IsMerged i before e.tree) (sym w.tree) (record {
      after = path.leaf_node;
      taken = path_taken e.tree i path.leaf_node (node_keys path) at.inside;
      signature = r.signature ∙ ap (λ (x : LeafNode). x.signature_key) old;
      others = λ j ne. path_others e.tree i path.leaf_node (node_keys path) j at.inside ne;
      width_is = width_path e.tree i path.leaf_node (node_keys path);
    })

leaves_merged : (c : Crypto) (p : PublicState) (i : ℕ) (e : Edits) (path : Option UpdatePath) (t : Term) (before : LeafNode) → leaf_of p.tree i ≡ Some before → Taken i before e.tree → apply_path_if c p i e path ≡ Ok t → IsMerged i before e.tree t
unfolding apply_path_if
leaves_merged c p i e None t before was at h =
    let is : e.tree ≡ t = cc in
    subst (IsMerged i before e.tree) is (record { after = before; taken = at; signature = refl; others = λ j ne. refl; width_is = refl })
leaves_merged c p i e (Some path) t before was at h = leaves_with_path c p i e path t before was at h

pub leaves_next : LeavesNext
leaves_next c p i used commit said signature change some h =
    let b = body_steps c p i used commit said signature change h in
    let s = edited_steps c p i used change.edits b.edits in
    let x = some_at (leaf_of p.tree i) some in
    let kept = kept_by c p i used change.edits i x.0 s x.1 s.not_updated s.not_removed in
    let there : leaf_of change.edits.tree i ≡ Some x.0 = kept.leaf ∙ x.1 in
    let m = leaves_merged c p i change.edits commit.path change.tree x.0 x.1 (taken_at change.edits.tree i x.0 there) b.path_merged in
    record {
      before = x.0;
      was = x.1;
      in_edits = there;
      after = m.after;
      is = at_taken change.tree i m.after m.taken;
      signature = m.signature;
      others = m.others;
      width = m.width_is;
    }
