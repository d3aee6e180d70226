-- What a commit makes of the public state of its committer, where its edits and its path are known.
use Rattle.std.proofs.Common.{◌≡◌, ℕ, ◌||◌, not, Bool, true, false, cond, List, Some, is_some, Result, Ok, refl, sym, ap, ◌∙◌}
use Rattle.mls_wire.proofs.CheckLaws.{bind_ok, then_ok}
use Rattle.mls_wire.specs.Laws.{ok_is}
use Rattle.mls_leaf.specs.declared.extension.Extension.{Extension}
use Rattle.mls_leaf.specs.declared.leaf.LeafNode.{LeafNode}
use Rattle.mls_types.specs.GroupContext.{group_context}
use Rattle.mls_types.specs.declared.update_path.UpdatePath.{UpdatePath}
use Rattle.mls_types.specs.Content.{framed_content}
use Rattle.mls_types.specs.declared.commit.Commit.{Commit}
use Rattle.mls_types.specs.declared.content.FramedContent.{FramedContent}
use Rattle.mls_suite.specs.Crypto.{Crypto}
use Rattle.mls_checks.specs.Checks.{replacement_checks}
use Rattle.mls_checks.specs.declared.checks.LeafUse.TheVariants as replaced_for
use Rattle.mls_tree_model.specs.Term.{Term}
use Rattle.mls_tree_model.specs.Way.{way}
use Rattle.mls_tree.specs.Tree.{member_at}
use Rattle.mls_tree.specs.Paths.{merge_answer}
use Rattle.mls_treekem_model.specs.Make.{Climb, climb_make}
use Rattle.mls_treekem_model.specs.Seal.{sealed_path}
use Rattle.mls_treekem_model.specs.Seeds.{path_seed, seal_seed}
use Rattle.mls_treekem_model.specs.Chain.{keys_of_path}
use Rattle.mls_model.specs.PublicState.{Used, provisional_context}
use Rattle.mls_model.specs.Proposals.{is_path_required}
use Rattle.mls_model.specs.Candidate.{leaf_key_of}
use Rattle.mls_model.specs.Commit.{Edits, apply_path_if, change_after_edits, change_of}
use Rattle.mls_model.specs.Member.{Member}
use Rattle.mls_model.specs.Make.{MadePath, committed_leaf, new_path, no_path, carried_after, path_if_needed, path_with}

-- ---- the body of a commit whose checks have passed

pub body_is : (c : Crypto) (m : Member) (used : List Used) (e : Edits) (commit : Commit) (t : Term) (said : FramedContent) (signature : List ℕ) →
    (is_some commit.path || not (is_path_required used)) ≡ true → apply_path_if c m.public m.keys.leaf e commit.path ≡ Ok t →
    change_after_edits c m.public m.keys.leaf used commit said signature e ≡ Ok (change_of m.public (carried_after m used) e t (framed_content.spell said) signature)
unfolding change_of
body_is c m used e commit t said signature path tree = rw (path, tree) refl

-- ---- a path is there where one is required (RFC 9420, 12.4)

abbrev with_climb : UpdatePath → Climb → MadePath
with_climb p climb = record { path = Some p; climb = climb }

some_there : (p : UpdatePath) (climb : Climb) (made : MadePath) (r : Result MadePath ℕ) → r ≡ Ok (with_climb p climb) → r ≡ Ok made → is_some made.path ≡ true
some_there p climb made r is h = sym (ap (λ (x : MadePath). is_some x.path) (ok_is (with_climb p climb) made (sym is ∙ h)))

new_path_some : (c : Crypto) (m : Member) (carried : List Extension) (e : Edits) (seed : List ℕ) (made : MadePath) → new_path c m carried e seed ≡ Ok made → is_some made.path ≡ true
unfolding new_path
new_path_some c m carried e seed made h =
    let old = bind_ok (member_at m.public.tree m.keys.leaf) _ made h in
    let leaf : LeafNode = committed_leaf c m e old.0 seed in
    let checks = then_ok (replacement_checks c leaf old.0 replaced_for.Commit m.public.context.group_id m.keys.leaf) _ made old.2 in
    let tree = bind_ok (merge_answer e.tree m.keys.leaf leaf (keys_of_path c e.tree m.keys.leaf (path_seed seed))) _ made checks.1 in
    let nodes = bind_ok (sealed_path c (group_context.spell (provisional_context m.public.context carried tree.0)) e.added (seal_seed seed) e.tree m.keys.leaf (path_seed seed)) _ made tree.2 in
    some_there (record { leaf_node = leaf; nodes = nodes.0 }) (climb_make c (way 0 e.tree m.keys.leaf) (path_seed seed) (leaf_key_of c seed)) made _ refl nodes.2

either_path : (wants required : Bool) (new old : Result MadePath ℕ) (made : MadePath) → (new ≡ Ok made → is_some made.path ≡ true) → cond (wants || required) new old ≡ Ok made → (is_some made.path || not required) ≡ true
either_path true true new old made some h = rw (some h) refl
either_path true false new old made some h = rw (some h) refl
either_path false true new old made some h = rw (some h) refl
either_path false false new old made some h = some_or_none (is_some made.path)
  where
    some_or_none : (b : Bool) → (b || true) ≡ true
    some_or_none true = refl
    some_or_none false = refl

pub path_due : (c : Crypto) (m : Member) (e : Edits) (used : List Used) (wants_path : Bool) (seed : List ℕ) (made : MadePath) → path_if_needed c m e used wants_path seed ≡ Ok made → (is_some made.path || not (is_path_required used)) ≡ true
unfolding path_with
path_due c m e used wants_path seed made h =
    either_path wants_path (is_path_required used) (new_path c m (carried_after m used) e seed) (Ok (no_path m e)) made (new_path_some c m (carried_after m used) e seed made) h
