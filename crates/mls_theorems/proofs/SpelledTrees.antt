-- A commit keeps the parts of its tree as they are to be spelled, and its context.
use Rattle.std.proofs.Common.{◌≡◌, ℕ, ◌+◌, ◌-◌, ◌<◌, ◌≤◌, ◌^◌, true, List, [], length, reverse, Option, Some, None, Ok, sym, ap, subst, ◌∙◌, arith, nat_lt}
use Rattle.std.specs.List.{AllByRecursion}
use Rattle.std.proofs.lemmas.Bool.{ltb-true, leb-true}
use Rattle.mls_wire.specs.Laws.{ok_is}
use Rattle.mls_leaf.specs.GroupExtensions.{group_extensions}
use Rattle.mls_leaf.specs.KeyPackage.{key_package}
use Rattle.mls_leaf.specs.Leaf.{leaf_node}
use Rattle.mls_leaf.specs.declared.extension.Extension.{Extension}
use Rattle.mls_leaf.specs.declared.leaf.LeafNode.{LeafNode}
use Rattle.mls_types.specs.GroupContext.{group_context}
use Rattle.mls_types.specs.declared.group_context.GroupContext.{GroupContext}
use Rattle.mls_types.specs.declared.update_path.UpdatePath.{UpdatePath}
use Rattle.mls_types.specs.declared.commit.Commit.{Commit}
use Rattle.mls_types.specs.declared.content.FramedContent.{FramedContent}
use Rattle.mls_suite.specs.Crypto.{Crypto}
use Rattle.mls_schedule.proofs.Lengths.{length-confirmed_hash}
use Rattle.mls_schedule.specs.Transcript.{confirmed_hash}
use Rattle.mls_types.specs.Content.{framed_content}
use Rattle.mls_tree.specs.Tree.{max_leaves}
use Rattle.mls_tree_model.specs.Arrays.{in_order}
use Rattle.mls_tree_model.specs.Good.{is_within, has_good_lists}
use Rattle.mls_tree_model.proofs.LengthLaws.{length-tree_hash}
use Rattle.mls_tree_model.specs.Merge.{merge_path}
use Rattle.mls_tree_model.specs.Term.{Term, width}
use Rattle.mls_treekem_model.proofs.ListLaws.{right_are_below}
use Rattle.mls_model.specs.MemberInvariant.{NodeFits}
use Rattle.mls_model.specs.Commit.{Edits, Change, apply_proposals, node_keys, apply_path_if, change_of_commit}
use Rattle.mls_model.specs.Proposals.{updates, removed_leaves, adds, extensions_after}
use Rattle.mls_model.specs.PublicState.{PublicState, Used, provisional_context, confirmed_context}
use Rattle.mls_theorems.specs.CommitLaws.{HasGood}
use Rattle.mls_theorems.proofs.Folds.{updates_keep, removes_keep, adds_keep, all_any}
use Rattle.mls_theorems.proofs.Inversion.{edited_steps, with_path_steps, body_steps}
use Rattle.mls_theorems.specs.NodeSpelling.{IsShort, PartsFit}
use Rattle.mls_theorems.proofs.Nodes.{parts_put, parts_remove, parts_add, parts_merge, nodes_fit}
use Rattle.mls_theorems.proofs.Spelled.{PathFits, UsedFits, all_reversed, updates_fit, adds_fit, extended_fits, package_leaf}

-- ---- the tree

parts_path : (t : Term) (i : ℕ) (x : LeafNode) (keys : List (List ℕ)) → leaf_node.Fits x → AllByRecursion IsShort keys → PartsFit t → PartsFit (merge_path t i x keys)
unfolding merge_path
parts_path t i x keys fits short h = parts_merge 0 t i (reverse keys) [] x fits (all_reversed keys short) (omega arith) h

pub parts_edited : (c : Crypto) (p : PublicState) (i : ℕ) (used : List Used) (e : Edits) → apply_proposals c p i used ≡ Ok e → AllByRecursion UsedFits used → PartsFit p.tree → PartsFit e.tree
parts_edited c p i used e h fits parts =
    let s = edited_steps c p i used e h in
    let one = updates_keep PartsFit (λ (u : ℕ × LeafNode). leaf_node.Fits u.1) (λ t u f inside q. parts_put 0 t u.0 (Some u.1) f q) (updates used) (updates_fit used fits) p.tree s.after_updates s.updating parts in
    let two = removes_keep PartsFit (λ (j : ℕ). Unit {0}) (λ t j f inside q. parts_remove t j q) (removed_leaves used) (all_any (removed_leaves used)) s.after_updates s.after_removes s.removing one in
    adds_keep PartsFit key_package.Fits (λ t k f within q. parts_add t k.leaf_node (package_leaf k f) q) (adds used) (adds_fit used fits) s.after_removes e s.adding two

parts_merged : (c : Crypto) (p : PublicState) (i : ℕ) (e : Edits) (path : Option UpdatePath) (t : Term) → apply_path_if c p i e path ≡ Ok t → PathFits path → PartsFit e.tree → PartsFit t
unfolding apply_path_if
parts_merged c p i e None t h fits parts = subst PartsFit (ok_is e.tree t h) parts
parts_merged c p i e (Some path) t h fits parts =
    let w = with_path_steps c p i e path t h in
    subst PartsFit (sym w.tree) (parts_path e.tree i path.leaf_node (node_keys path) fits.0 fits.1 parts)

pub parts_next : (c : Crypto) (p : PublicState) (i : ℕ) (used : List Used) (commit : Commit) (said : FramedContent) (signature : List ℕ) (change : Change) → change_of_commit c p i used commit said signature ≡ Ok change →
    AllByRecursion UsedFits used → PathFits commit.path → PartsFit p.tree → PartsFit change.tree
parts_next c p i used commit said signature change h fits path parts =
    let b = body_steps c p i used commit said signature change h in
    parts_merged c p i change.edits commit.path change.tree b.path_merged path (parts_edited c p i used change.edits b.edits fits parts)

-- where it is good, its nodes have a spelling
pub good_nodes_fit : (c : Crypto) (p : PublicState) (t : Term) → HasGood c p t → PartsFit t → AllByRecursion NodeFits (in_order t)
unfolding is_within has_good_lists
good_nodes_fit c p t good parts =
    let low : width t ≤ max_leaves = leb-true _ _ good.within in
    let lists = right_are_below 0 t (record { right = good.lists; rising = good.rising }) in
    nodes_fit 0 t (omega arith) parts lists.below lists.rising

-- ---- the context

next_context_fits : (old : GroupContext) (carried : List Extension) (t : Term) (hash : List ℕ) → group_context.Fits old → group_extensions.Fits carried → old.epoch + 1 < 2 ^ 64 → length hash ≡ 32 → group_context.Fits (confirmed_context (provisional_context old carried t) hash)
unfolding group_context provisional_context confirmed_context
next_context_fits old carried t hash f list low long = (f.0, (f.1.0, (low, (omega (arith, length-tree_hash 0 t), (omega arith, list)))))

context_list : (x : GroupContext) → group_context.Fits x → group_extensions.Fits x.extensions
unfolding group_context
context_list x f = f.1.1.1.1.1

pub context_next : (c : Crypto) (p : PublicState) (i : ℕ) (used : List Used) (commit : Commit) (said : FramedContent) (signature : List ℕ) (change : Change) → change_of_commit c p i used commit said signature ≡ Ok change →
    nat_lt p.context.epoch (2 ^ 64 - 1) ≡ true → AllByRecursion UsedFits used → group_context.Fits p.context → group_context.Fits change.context
context_next c p i used commit said signature change h below used_fit fits =
    let b = body_steps c p i used commit said signature change h in
    let low : p.context.epoch < 2 ^ 64 - 1 = ltb-true _ _ below in
    let hash : List ℕ = confirmed_hash p.interim 1 (framed_content.spell said) signature in
    subst group_context.Fits (sym (b.context ∙ ap (λ (x : GroupContext). confirmed_context x hash) b.provisional))
    (next_context_fits p.context (extensions_after p.context.extensions used) change.tree hash fits (extended_fits p.context.extensions used (context_list p.context fits) used_fit) (omega arith) (length-confirmed_hash _ _ _ _))
