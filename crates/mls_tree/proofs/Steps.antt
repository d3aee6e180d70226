-- What an edit found, and which tree it made, where it is answered.
use Rattle.std.proofs.Common.{◌≡◌, ℕ, ◌<◌, ◌≤◌, true, List, length, Option, Some, None, Ok, eqb-true, ap, sym, ◌∙◌}
use Rattle.mls_wire.specs.Checks.{passed}
use Rattle.mls_wire.specs.CheckLaws.{required}
use Rattle.mls_wire.proofs.CheckLaws.{bind_ok, then_ok, require_ok, given_ok}
use Rattle.mls_leaf.specs.declared.leaf.LeafNode.{LeafNode}
use Rattle.mls_tree_model.specs.Node.{source_hash}
use Rattle.mls_tree_model.specs.Term.{Term, width, leaf_of}
use Rattle.mls_tree_model.specs.Sets.{same_bytes, is_distinct}
use Rattle.mls_tree_model.specs.Way.{path_length}
use Rattle.mls_tree_model.specs.Edits.{put, place_in, add, update, remove}
use Rattle.mls_tree_model.specs.Hashes.{is_some_bytes}
use Rattle.mls_tree_model.specs.Keys.{encryption_keys}
use Rattle.mls_tree_model.specs.Merge.{merge_path, path_parent_hash}
use Rattle.mls_tree_model.specs.Good.{is_within, has_distinct_keys}
use Rattle.mls_tree_model.proofs.Equations.{update_is}
use Rattle.mls_tree_model.proofs.CountLaws.{bytes_true}
use Rattle.mls_tree_model.proofs.SoundLaws.{within_at}
use Rattle.mls_tree_model.proofs.TakenLaws.{taken_at}
use Rattle.mls_tree.specs.Tree.{max_leaves, member_at, add_answer, update_answer, remove_answer}
use Rattle.mls_tree.specs.Paths.{path_checks, merge_checks, merge_answer}

-- ---- an update, a removal, an add

pub record IsUpdate (t : Term) (i : ℕ) (x : LeafNode) (s : Term) : Type 0 where
  pub inside : i < width t
  pub tree : s ≡ put 0 t i (Some x)

pub update_steps : (t : Term) (i : ℕ) (x : LeafNode) (s : Term) → update_answer t i x ≡ Ok s → IsUpdate t i x s
unfolding update_answer
update_steps t i x s h =
    let found = bind_ok (member_at t i) _ s h in
    let at = taken_at t i found.0 (given_ok 22 (leaf_of t i) found.0 found.1) in
    let is : update t i x ≡ s = cc in
    record { inside = at.inside; tree = sym is ∙ update_is t i x }

pub record IsRemoval (t : Term) (i : ℕ) (s : Term) : Type 0 where
  pub inside : i < width t
  pub tree : s ≡ remove t i

pub remove_steps : (t : Term) (i : ℕ) (s : Term) → remove_answer t i ≡ Ok s → IsRemoval t i s
unfolding remove_answer
remove_steps t i s h =
    let found = bind_ok (member_at t i) _ s h in
    let at = taken_at t i found.0 (given_ok 22 (leaf_of t i) found.0 found.1) in
    let is : remove t i ≡ s = cc in
    record { inside = at.inside; tree = sym is }

pub record IsAdd (t : Term) (x : LeafNode) (k : ℕ) (s : Term) : Type 0 where
  pub place : k ≡ place_in t
  pub tree : s ≡ add t x
  pub within : width (add t x) ≤ max_leaves

pub add_steps : (t : Term) (x : LeafNode) (k : ℕ) (s : Term) → add_answer t x ≡ Ok (k, s) → IsAdd t x k s
unfolding add_answer
add_steps t x k s h =
    let room = require_ok 21 (is_within max_leaves (add t x)) _ (k, s) h in
    let is : Path (ℕ × Term) (place_in t, add t x) (k, s) = cc in
    record {
      place = sym (ap (λ (p : ℕ × Term). p.0) is);
      tree = sym (ap (λ (p : ℕ × Term). p.1) is);
      within = within_at max_leaves (add t x) room.0;
    }

-- ---- a path

-- a member stands at the leaf, and there are as many keys as the filtered path has parents
pub record HasPath (t : Term) (i n : ℕ) : Type 0 where
  pub old : LeafNode
  pub member : leaf_of t i ≡ Some old
  pub count : n ≡ path_length 0 t i

pub path_steps : (t : Term) (i n : ℕ) → path_checks t i n ≡ Ok passed → HasPath t i n
unfolding path_checks
path_steps t i n h =
    let found = bind_ok (member_at t i) _ passed h in
    record {
      old = found.0;
      member = given_ok 22 (leaf_of t i) found.0 found.1;
      count = eqb-true n (path_length 0 t i) (required 30 _ passed found.2);
    }

the_hash : (found : Option (List ℕ)) (wanted : List ℕ) → is_some_bytes found wanted ≡ true → found ≡ Some wanted
the_hash None wanted h = cc
the_hash (Some found) wanted h = ap Some (bytes_true found wanted h)

pub record IsMerge (t : Term) (i : ℕ) (x : LeafNode) (keys : List (List ℕ)) (s : Term) : Type 0 where
  pub path : HasPath t i (length keys)
  pub inside : i < width t
  pub apart : has_distinct_keys (merge_path t i x keys) ≡ true
  pub hash : source_hash x.source ≡ Some (path_parent_hash t i keys)
  pub tree : s ≡ merge_path t i x keys

pub merge_steps : (t : Term) (i : ℕ) (x : LeafNode) (keys : List (List ℕ)) (s : Term) → merge_answer t i x keys ≡ Ok s → IsMerge t i x keys s
unfolding merge_answer merge_checks has_distinct_keys
merge_steps t i x keys s h =
    let whole = then_ok (merge_checks t i x keys) _ s h in
    let checks = then_ok (path_checks t i (length keys)) _ passed whole.0 in
    let path = path_steps t i (length keys) checks.0 in
    let at = taken_at t i path.old path.member in
    let apart = require_ok 25 (is_distinct same_bytes (encryption_keys (merge_path t i x keys))) _ passed checks.1 in
    let is : merge_path t i x keys ≡ s = cc in
    record {
      path = path;
      inside = at.inside;
      apart = apart.0;
      hash = the_hash (source_hash x.source) (path_parent_hash t i keys) (required 24 _ passed apart.1);
      tree = sym is;
    }
