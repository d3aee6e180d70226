-- A received commit's tree: the group's own with a path, or the edited one, with a path or without.
use Rattle.std.proofs.Common.{◌≡◌, ℕ, ◌==◌, Bool, true, false, ◌&&◌, List, [], ◌∷◌, length, Option, None, Ok, refl, sym, ◌∙◌, ap, subst, arith, eqb-true}
use Rattle.mls_wire.specs.Laws.{ok_is}
use Rattle.mls_leaf.specs.declared.extension.Extension.{Extension}
use Rattle.mls_leaf.specs.declared.leaf.LeafNode.{LeafNode}
use Rattle.mls_suite.specs.Crypto.{Crypto}
use Rattle.mls_tree_model.specs.Merge.{merge_path}
use Rattle.mls_tree.specs.Paths.{merge_answer}
use Rattle.mls_tree.specs.PreparedPath.{Prepared, IsFor, merged_by}
use Rattle.mls_tree.specs.Tree.{Tree, term}
use Rattle.mls_tree_model.specs.Term.{Term}
use Rattle.mls_model.specs.PublicState.{PublicState, Used}
use Rattle.mls_model.specs.Proposals.{updates, removed_leaves, adds}
use Rattle.mls_model.specs.Commit.{Edits, Change, apply_updates, apply_removes, apply_adds, apply_proposals, apply_path_if, public_with, change_of}
use Rattle.mls_schedule.specs.Transcript.{interim_hash}
use Rattle.mls_types.specs.declared.group_context.GroupContext.{GroupContext}
use Rattle.mls_types.specs.declared.update_path.UpdatePath.{UpdatePath}
use Rattle.mls_public_group.specs.NextTree.{next_term, is_merged, IsPreparedFor}
use Rattle.mls_public_group.specs.declared.next_tree.NextTree.{NextTree}
use Rattle.mls_public_group.specs.declared.next_tree.NextTree.TheVariants.{Edited, EditedMerged, Merged}
use Rattle.mls_theorems.proofs.Inversion.{edited_steps}

-- ---- whose tree it is

pub and_right : (a b : Bool) → (a && b) ≡ true → b ≡ true
and_right true b e = e
and_right false b e = absurd (let never : false ≡ true = e in cc never)

pub own_tree : (merged path base none own : Bool) → merged ≡ (path && base) → base ≡ none → own ≡ merged → own ≡ (path && none)
own_tree merged path base none own is of on = on ∙ is ∙ ap (λ b. path && b) of

-- ---- trees alike

pub next_alike : (s t : Term) (n : NextTree) → (is_merged n ≡ true → s ≡ t) → next_term s n ≡ next_term t n
unfolding next_term
next_alike s t (Edited u) same = refl
next_alike s t (EditedMerged u p) same = refl
next_alike s t (Merged p) same = ap (λ x. next_term x (Merged p)) (same refl)

pub follows_alike : (s t : Term) (n : NextTree) → (is_merged n ≡ true → s ≡ t) → IsPreparedFor s n → IsPreparedFor t n
unfolding IsPreparedFor
follows_alike s t (Edited u) same f = f
follows_alike s t (EditedMerged u p) same f = f
follows_alike s t (Merged p) same f = subst (λ x. IsPreparedFor x (Merged p)) (same refl) f

-- without proposals the tree is the group's
unedited : (t s r : Term) (e : Edits) → apply_updates t (updates []) ≡ Ok s → apply_removes s (removed_leaves []) ≡ Ok r → apply_adds r (adds []) ≡ Ok e → e.tree ≡ t
unfolding apply_updates apply_removes apply_adds updates removed_leaves adds
unedited t s r e one two three = sym (ap (λ (f : Edits). f.tree) (ok_is _ e three)) ∙ sym (ok_is s r two) ∙ sym (ok_is t s one)

pub no_edits : (c : Crypto) (p : PublicState) (i : ℕ) (used : List Used) (e : Edits) → (length used == 0) ≡ true → apply_proposals c p i used ≡ Ok e → e.tree ≡ p.tree
no_edits c p i [] e none h = let steps = edited_steps c p i [] e h in unedited p.tree steps.after_updates steps.after_removes e steps.updating steps.removing steps.adding
no_edits c p i (u ∷ us) e none h = absurd (let z = eqb-true (length (u ∷ us)) 0 none in omega arith)

-- ---- a path merged

pub prepared_answer : (s t : Term) (p : Prepared) (i : ℕ) (x : LeafNode) (keys : List (List ℕ)) → s ≡ t → merge_answer s i x keys ≡ Ok (merge_path s i x keys) → merged_by s p ≡ merge_path s i x keys → merge_answer t i x keys ≡ Ok (next_term t (Merged p))
unfolding next_term
prepared_answer s t p i x keys same answer made = subst (λ u. merge_answer u i x keys ≡ Ok (merged_by u p)) same (answer ∙ ap Ok (sym made))

pub prepared_follows : (s t : Term) (p : Prepared) → s ≡ t → IsFor s p → IsPreparedFor t (Merged p)
unfolding IsPreparedFor
prepared_follows s t p same is = subst (λ u. IsFor u p) same is

pub edited_answer : (s t : Term) (u : Tree) (p : Prepared) (i : ℕ) (x : LeafNode) (keys : List (List ℕ)) → s ≡ t → term u ≡ s → merge_answer s i x keys ≡ Ok (merge_path s i x keys) → merged_by s p ≡ merge_path s i x keys → merge_answer t i x keys ≡ Ok (next_term t (EditedMerged u p))
unfolding next_term
edited_answer s t u p i x keys same is answer made = subst (λ v. merge_answer v i x keys ≡ Ok (merged_by (term u) p)) same (answer ∙ ap Ok (sym made ∙ ap (λ v. merged_by v p) (sym is)))

pub edited_follows : (s t : Term) (u : Tree) (p : Prepared) → term u ≡ s → IsFor s p → IsPreparedFor t (EditedMerged u p)
unfolding IsPreparedFor
edited_follows s t u p is prepared = subst (λ v. IsFor v p) (sym is) prepared

pub edited_alone_follows : (t : Term) (u : Tree) → IsPreparedFor t (Edited u)
unfolding IsPreparedFor
edited_alone_follows t u = tt

pub none_merged : (c : Crypto) (p : PublicState) (i : ℕ) (e : Edits) (path : Option UpdatePath) (u : Tree) → path ≡ None → term u ≡ e.tree → apply_path_if c p i e path ≡ Ok (next_term e.tree (Edited u))
unfolding apply_path_if next_term
none_merged c p i e path u none is = rw none (ap Ok (sym is))

-- ---- the next state

pub edits_of_change : (p : PublicState) (list : List Extension) (e : Edits) (t : Term) (said signature : List ℕ) (change : Change) → change ≡ change_of p list e t said signature → change.edits.tree ≡ e.tree
unfolding change_of
edits_of_change p list e t said signature change made = ap (λ (x : Change). x.edits.tree) made

pub public_next : (p : PublicState) (change : Change) (tag : List ℕ) (x : GroupContext) (t : Term) (interim : List ℕ) → p ≡ record { context = x; tree = t; interim = interim } → x ≡ change.context → t ≡ change.tree → interim ≡ interim_hash change.context.confirmed_transcript_hash tag → p ≡ public_with change tag
unfolding public_with
public_next p change tag x t interim is a b d = is ∙ rw (a, b, d) refl
