-- The steps of edits, of a path and of a commit.
use Rattle.std.proofs.Common.{◌≡◌, ℕ, ◌==◌, not, nat_eq, nat_le, ◌||◌, true, List, ◌∷◌, ◌++◌, length, map, Option, Some, None, is_some, Ok, refl, eqb-true, sym, ◌∙◌, ap, subst}
use Rattle.std.specs.List.{list_all}
use Rattle.std.specs.Str.{bytes_eq}
use Rattle.std.proofs.lemmas.Bool.{not-true}
use Rattle.mls_wire.specs.Checks.{passed}
use Rattle.mls_wire.specs.Laws.{ok_is}
use Rattle.mls_leaf.specs.declared.leaf.LeafNode.{LeafNode}
use Rattle.mls_tree_model.specs.Term.{Term}
use Rattle.mls_tree_model.specs.Sets.{has, same_bytes, is_distinct}
use Rattle.mls_checks.specs.Checks.{replacement_checks}
use Rattle.mls_checks.specs.declared.checks.LeafUse.TheVariants as leaf_node_source
use Rattle.mls_tree_model.specs.Node.{source_hash}
use Rattle.mls_tree_model.specs.Term.{leaf_of}
use Rattle.mls_tree_model.specs.Way.{path_length}
use Rattle.mls_tree_model.specs.Hashes.{is_some_bytes}
use Rattle.mls_tree_model.proofs.CountLaws.{bytes_true}
use Rattle.mls_tree_model.specs.Keys.{encryption_keys}
use Rattle.mls_tree_model.specs.Merge.{merge_path, path_parent_hash}
use Rattle.mls_tree.specs.Tree.{member_at}
use Rattle.mls_tree.specs.Paths.{path_checks, merge_checks, merge_answer}
use Rattle.mls_types.specs.Content.{framed_content}
use Rattle.mls_tree_model.specs.Good.{has_distinct_keys, has_distinct_clients}
use Rattle.mls_model.specs.Proposals.{full_checks, updates, updated_leaves, removed_leaves, adds, extension_lists, extensions_after, package_reference, is_path_required}
use Rattle.mls_model.specs.Commit.{Edits, Change, apply_updates, apply_removes, apply_adds, apply_proposals, node_keys, cipher_counts, due_counts, apply_update_path, apply_path_if, change_of, change_of_commit}
use Rattle.mls_theorems.specs.EditLaws.{EditedSteps, WithPathSteps, IsBody, BodySteps}
use Rattle.mls_wire.specs.CheckLaws.{required}
use Rattle.mls_wire.proofs.CheckLaws.{bind_ok, then_ok, require_ok, given_ok}

pub edited_steps : EditedSteps
unfolding apply_proposals
edited_steps c p committer used e h =
    let full = then_ok (full_checks c p used) _ e h in
    let one = require_ok 61 (not (has (updated_leaves used) committer)) _ e full.1 in
    let two = require_ok 62 (not (has (removed_leaves used) committer)) _ e one.1 in
    let three = require_ok 63 (is_distinct nat_eq (updated_leaves used ++ removed_leaves used)) _ e two.1 in
    let list = require_ok 68 (nat_le (length (extension_lists used)) 1) _ e three.1 in
    let four = bind_ok (apply_updates p.tree (updates used)) _ e list.1 in
    let five = bind_ok (apply_removes four.0 (removed_leaves used)) _ e four.2 in
    let six = bind_ok (apply_adds five.0 (adds used)) _ e five.2 in
    let seven = require_ok 26 (has_distinct_clients six.0.tree) _ e six.2 in
    let eight = require_ok 26 (is_distinct same_bytes (map package_reference (adds used))) _ e seven.1 in
    let nine = require_ok 25 (has_distinct_keys six.0.tree) _ e eight.1 in
    let is : six.0 ≡ e = cc in
    record {
      full = full.0;
      not_updated = not-true (has (updated_leaves used) committer) one.0;
      not_removed = not-true (has (removed_leaves used) committer) two.0;
      apart = three.0;
      single = list.0;
      after_updates = four.0;
      updating = four.1;
      after_removes = five.0;
      removing = five.1;
      adding = six.1 ∙ ap Ok is;
      clients = sym (ap (λ (f : Edits). has_distinct_clients f.tree) is) ∙ seven.0;
      references = eight.0;
      keys = sym (ap (λ (f : Edits). has_distinct_keys f.tree) is) ∙ nine.0;
    }

path_checked : (t : Term) (i n : ℕ) → path_checks t i n ≡ Ok passed → (v : LeafNode) × (leaf_of t i ≡ Some v) × (n ≡ path_length 0 t i)
unfolding path_checks
path_checked t i n h =
    let found = bind_ok (member_at t i) _ passed h in
    let count = required 30 (n == path_length 0 t i) passed found.2 in
    (found.0, given_ok 22 (leaf_of t i) found.0 found.1, eqb-true n (path_length 0 t i) count)

is_the_hash : (found : Option (List ℕ)) (wanted : List ℕ) → is_some_bytes found wanted ≡ true → found ≡ Some wanted
is_the_hash None wanted h = cc
is_the_hash (Some found) wanted h = ap Some (bytes_true found wanted h)

pub with_path_steps : WithPathSteps
unfolding apply_update_path merge_answer merge_checks has_distinct_keys
with_path_steps c p committer e path t h =
    let member = bind_ok (member_at p.tree committer) _ t h in
    let replaced = then_ok (replacement_checks c path.leaf_node member.0 leaf_node_source.Commit p.context.group_id committer) _ t member.2 in
    let count = require_ok 30 (length path.nodes == path_length 0 e.tree committer) _ t replaced.1 in
    let counts = require_ok 31 (bytes_eq (cipher_counts path) (due_counts e committer)) _ t count.1 in
    let fit = require_ok 36 (list_all c.key_ok (path.leaf_node.encryption_key ∷ node_keys path)) _ t counts.1 in
    let checks = then_ok (merge_checks e.tree committer path.leaf_node (node_keys path)) _ t fit.1 in
    let checked = then_ok (path_checks e.tree committer (length (node_keys path))) _ passed checks.0 in
    let found = path_checked e.tree committer (length (node_keys path)) checked.0 in
    let keys = require_ok 25 (is_distinct same_bytes (encryption_keys (merge_path e.tree committer path.leaf_node (node_keys path)))) _ passed checked.1 in
    let hash = required 24 (is_some_bytes (source_hash path.leaf_node.source) (path_parent_hash e.tree committer (node_keys path))) passed keys.1 in
    let is : merge_path e.tree committer path.leaf_node (node_keys path) ≡ t = cc in
    record {
      old = member.0;
      is_old = given_ok 22 (leaf_of p.tree committer) member.0 member.1;
      replaced = replaced.0;
      count = eqb-true (length path.nodes) (path_length 0 e.tree committer) count.0;
      counts = counts.0;
      fit = fit.0;
      stays = found.0;
      is_there = found.1;
      key_count = found.2;
      keys = sym (ap (λ (s : Term). is_distinct same_bytes (encryption_keys s)) is) ∙ keys.0;
      hash = is_the_hash (source_hash path.leaf_node.source) (path_parent_hash e.tree committer (node_keys path)) hash;
      tree = sym is;
    }

pub body_steps : BodySteps
unfolding change_of_commit change_of
body_steps c p committer used commit said signature change h =
    let edits = bind_ok (apply_proposals c p committer used) _ change h in
    let path = require_ok 64 (is_some commit.path || not (is_path_required used)) _ change edits.2 in
    let tree = bind_ok (apply_path_if c p committer edits.0 commit.path) _ change path.1 in
    let made : Change = change_of p (extensions_after p.context.extensions used) edits.0 tree.0 (framed_content.spell said) signature in
    let is : made ≡ change = ok_is made change tree.2 in
    subst (IsBody c p committer used commit said signature) is (record {
      edits = edits.1;
      path = path.0;
      path_merged = tree.1;
      provisional = refl;
      context = refl;
    })
