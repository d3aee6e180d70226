-- The steps of a call that succeeded: what each check found, and what each part answered.
use Rattle.std.specs.Prelude.{◌≡◌, ℕ, not, nat_eq, nat_le, ◌||◌, true, false, List, ◌∷◌, ◌++◌, length, map, Some, is_some, Ok}
use Rattle.std.specs.List.{list_all}
use Rattle.std.specs.Str.{bytes_eq}
use Rattle.mls_wire.specs.Checks.{passed}
use Rattle.mls_leaf.specs.declared.leaf.LeafNode.{LeafNode}
use Rattle.mls_types.specs.declared.update_path.UpdatePath.{UpdatePath}
use Rattle.mls_types.specs.Content.{framed_content}
use Rattle.mls_types.specs.declared.commit.Commit.{Commit}
use Rattle.mls_types.specs.declared.content.FramedContent.{FramedContent}
use Rattle.mls_suite.specs.Crypto.{Crypto}
use Rattle.mls_checks.specs.Checks.{replacement_checks}
use Rattle.mls_checks.specs.declared.checks.LeafUse.TheVariants as leaf_node_source
use Rattle.mls_tree_model.specs.Node.{source_hash}
use Rattle.mls_tree_model.specs.Term.{Term, leaf_of}
use Rattle.mls_tree_model.specs.Sets.{has, same_bytes, is_distinct}
use Rattle.mls_tree_model.specs.Way.{path_length}
use Rattle.mls_tree_model.specs.Merge.{merge_path, path_parent_hash}
use Rattle.mls_tree_model.specs.Good.{has_distinct_keys, has_distinct_clients}
use Rattle.mls_schedule.specs.Transcript.{confirmed_hash}
use Rattle.mls_model.specs.PublicState.{PublicState, Used, provisional_context, confirmed_context}
use Rattle.mls_model.specs.Proposals.{full_checks, updates, updated_leaves, removed_leaves, adds, extension_lists, extensions_after, package_reference, is_path_required}
use Rattle.mls_model.specs.Commit.{Edits, Change, apply_updates, apply_removes, apply_adds, apply_proposals, node_keys, cipher_counts, due_counts, apply_update_path, apply_path_if, change_of_commit}

-- what each check of a commit's proposals found, and what each part of the edits answered
pub record IsEdited (c : Crypto) (p : PublicState) (committer : ℕ) (used : List Used) (e : Edits) : Type 0 where
  pub full : full_checks c p used ≡ Ok passed
  pub not_updated : has (updated_leaves used) committer ≡ false
  pub not_removed : has (removed_leaves used) committer ≡ false
  pub apart : is_distinct nat_eq (updated_leaves used ++ removed_leaves used) ≡ true
  pub single : nat_le (length (extension_lists used)) 1 ≡ true
  pub after_updates : Term
  pub updating : apply_updates p.tree (updates used) ≡ Ok after_updates
  pub after_removes : Term
  pub removing : apply_removes after_updates (removed_leaves used) ≡ Ok after_removes
  pub adding : apply_adds after_removes (adds used) ≡ Ok e
  pub clients : has_distinct_clients e.tree ≡ true
  pub references : is_distinct same_bytes (map package_reference (adds used)) ≡ true
  pub keys : has_distinct_keys e.tree ≡ true

abbrev pub EditedSteps : Type 0
EditedSteps = (c : Crypto) (p : PublicState) (committer : ℕ) (used : List Used) (e : Edits) →
    apply_proposals c p committer used ≡ Ok e → IsEdited c p committer used e

-- what each check of a path found that was merged into the tree after the edits
pub record IsWithPath (c : Crypto) (p : PublicState) (committer : ℕ) (e : Edits) (path : UpdatePath)
    (t : Term) : Type 0 where
  pub old : LeafNode
  pub is_old : leaf_of p.tree committer ≡ Some old
  pub replaced : replacement_checks c path.leaf_node old leaf_node_source.Commit p.context.group_id committer ≡ Ok passed
  pub count : length path.nodes ≡ path_length 0 e.tree committer
  pub counts : bytes_eq (cipher_counts path) (due_counts e committer) ≡ true
  pub fit : list_all c.key_ok (path.leaf_node.encryption_key ∷ node_keys path) ≡ true
  pub stays : LeafNode
  pub is_there : leaf_of e.tree committer ≡ Some stays
  pub key_count : length (node_keys path) ≡ path_length 0 e.tree committer
  pub keys : has_distinct_keys t ≡ true
  pub hash : source_hash path.leaf_node.source ≡ Some (path_parent_hash e.tree committer (node_keys path))
  pub tree : t ≡ merge_path e.tree committer path.leaf_node (node_keys path)

abbrev pub WithPathSteps : Type 0
WithPathSteps = (c : Crypto) (p : PublicState) (committer : ℕ) (e : Edits) (path : UpdatePath) (t : Term) →
    apply_update_path c p committer e path ≡ Ok t → IsWithPath c p committer e path t

-- what each check of a whole commit found
pub record IsBody (c : Crypto) (p : PublicState) (committer : ℕ) (used : List Used) (commit : Commit)
    (said : FramedContent) (signature : List ℕ) (change : Change) : Type 0 where
  pub edits : apply_proposals c p committer used ≡ Ok change.edits
  pub path : (is_some commit.path || not (is_path_required used)) ≡ true
  pub path_merged : apply_path_if c p committer change.edits commit.path ≡ Ok change.tree
  pub provisional : change.provisional
      ≡ provisional_context p.context (extensions_after p.context.extensions used) change.tree
  pub context : change.context ≡ confirmed_context change.provisional
      (confirmed_hash p.interim 1 (framed_content.spell said) signature)

abbrev pub BodySteps : Type 0
BodySteps = (c : Crypto) (p : PublicState) (committer : ℕ) (used : List Used) (commit : Commit) (said : FramedContent)
    (signature : List ℕ) (change : Change) → change_of_commit c p committer used commit said signature ≡ Ok change →
    IsBody c p committer used commit said signature change
