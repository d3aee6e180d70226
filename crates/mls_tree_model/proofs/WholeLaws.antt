-- What each edit of a whole tree keeps: right lists, and with them parent hashes.
use Rattle.std.proofs.Common.{◌≡◌, ℕ, true, List, [], length, reverse, Option, Some, None, refl, ◌∙◌, arith}
use Rattle.std.proofs.lemmas.List.{length-reverse}
use Rattle.mls_leaf.specs.declared.leaf.LeafNode.{LeafNode}
use Rattle.mls_tree_model.specs.Node.{source_hash}
use Rattle.mls_tree_model.specs.Term.{Term, width, leaf_at}
use Rattle.mls_tree_model.specs.Way.{path_length}
use Rattle.mls_tree_model.specs.Edits.{put, enter, grow, first_blank, place_for, room_for, add, update, remove}
use Rattle.mls_tree_model.specs.Lists.{all_parents, lists_here, rises_here}
use Rattle.mls_tree_model.specs.Hashes.{is_parent_hash_valid}
use Rattle.mls_tree_model.specs.Merge.{merge_path, path_parent_hash}
use Rattle.mls_tree_model.specs.Good.{has_good_lists, has_good_hashes}
use Rattle.mls_tree_model.specs.Laws.{IsTied}
use Rattle.mls_tree_model.proofs.ParentLaws.{parents-put, parents-grow, parents-trim}
use Rattle.mls_tree_model.proofs.NamedLaws.{fresh, lists-enter, rises-enter}
use Rattle.mls_tree_model.proofs.AddLaws.{valid-enter}
use Rattle.mls_tree_model.proofs.MergeLaws.{valid-merge, lists-merge, rises-merge}
use Rattle.mls_tree_model.proofs.PlaceLaws.{first_blank_at, leaf_at-grow, width-grow}

-- ---- an update, a removal and a merge keep right lists as they keep every list

pub right_update : (t : Term) (i : ℕ) (x : LeafNode) → has_good_lists t ≡ true → has_good_lists (update t i x) ≡ true
unfolding update has_good_lists
right_update t i x h = parents-put lists_here 0 t i (Some x) h

pub right_remove : (t : Term) (i : ℕ) → has_good_lists t ≡ true → has_good_lists (remove t i) ≡ true
unfolding remove has_good_lists
right_remove t i h = parents-trim lists_here 0 (put 0 t i None) (parents-put lists_here 0 t i None h)

pub right_merge_path : (t : Term) (i : ℕ) (x : LeafNode) (keys : List (List ℕ)) → has_good_lists t ≡ true → has_good_lists (merge_path t i x keys) ≡ true
unfolding merge_path has_good_lists
right_merge_path t i x keys h = lists-merge 0 t i (reverse keys) [] x h

-- ---- so they keep rising lists

pub rising_update : (t : Term) (i : ℕ) (x : LeafNode) → all_parents rises_here 0 t ≡ true → all_parents rises_here 0 (update t i x) ≡ true
unfolding update
rising_update t i x h = parents-put rises_here 0 t i (Some x) h

pub rising_remove : (t : Term) (i : ℕ) → all_parents rises_here 0 t ≡ true → all_parents rises_here 0 (remove t i) ≡ true
unfolding remove
rising_remove t i h = parents-trim rises_here 0 (put 0 t i None) (parents-put rises_here 0 t i None h)

pub rising_merge_path : (t : Term) (i : ℕ) (x : LeafNode) (keys : List (List ℕ)) → all_parents rises_here 0 t ≡ true → all_parents rises_here 0 (merge_path t i x keys) ≡ true
unfolding merge_path
rising_merge_path t i x keys h = rises-merge 0 t i (reverse keys) [] x h

-- ---- an add, in the tree in which room was made

room_right : (t : Term) (x : LeafNode) (o : Option ℕ) → first_blank 0 t ≡ o → all_parents lists_here 0 t ≡ true → all_parents lists_here 0 (enter 0 (room_for o t) (place_for o t) x) ≡ true
room_right t x (Some i) e h = let f = first_blank_at 0 t i e in let high = f.1 in lists-enter 0 t i x (omega arith) high h
room_right t x None e h = let w = width-grow t in lists-enter 0 (grow t) (width t) x (omega arith) (omega arith) (parents-grow lists_here 0 t h)

pub right_add : (t : Term) (x : LeafNode) → has_good_lists t ≡ true → has_good_lists (add t x) ≡ true
unfolding add has_good_lists
right_add t x h = room_right t x (first_blank 0 t) refl h

room_rising : (t : Term) (x : LeafNode) (o : Option ℕ) → all_parents rises_here 0 t ≡ true → all_parents rises_here 0 (enter 0 (room_for o t) (place_for o t) x) ≡ true
room_rising t x (Some i) h = rises-enter 0 t i x h
room_rising t x None h = rises-enter 0 (grow t) (width t) x (parents-grow rises_here 0 t h)

pub rising_add : (t : Term) (x : LeafNode) → all_parents rises_here 0 t ≡ true → all_parents rises_here 0 (add t x) ≡ true
unfolding add
rising_add t x h = room_rising t x (first_blank 0 t) h

room_valid : (t : Term) (x : LeafNode) (o : Option ℕ) → first_blank 0 t ≡ o → all_parents lists_here 0 t ≡ true → all_parents is_parent_hash_valid 0 t ≡ true → all_parents is_parent_hash_valid 0 (enter 0 (room_for o t) (place_for o t) x) ≡ true
room_valid t x (Some i) e h v =
    let f = first_blank_at 0 t i e in
    let high = f.1 in
    valid-enter 0 t i x (omega arith) high f.2 (fresh 0 t i h f.2) v
room_valid t x None e h v =
    let blank : leaf_at 0 (grow t) (width t) ≡ None = leaf_at-grow 0 t (width t) (omega arith) in
    let w = width-grow t in
    valid-enter 0 (grow t) (width t) x (omega arith) (omega arith) blank (fresh 0 (grow t) (width t) (parents-grow lists_here 0 t h) blank) (parents-grow is_parent_hash_valid 0 t v)

hashes_add : (t : Term) (x : LeafNode) → IsTied t → has_good_hashes (add t x) ≡ true
unfolding add has_good_lists has_good_hashes
hashes_add t x h = room_valid t x (first_blank 0 t) refl h.lists h.hashes

-- ---- lists and parent hashes together

hashes_update : (t : Term) (i : ℕ) (x : LeafNode) → has_good_hashes t ≡ true → has_good_hashes (update t i x) ≡ true
unfolding update has_good_hashes
hashes_update t i x h = parents-put is_parent_hash_valid 0 t i (Some x) h

hashes_remove : (t : Term) (i : ℕ) → has_good_hashes t ≡ true → has_good_hashes (remove t i) ≡ true
unfolding remove has_good_hashes
hashes_remove t i h = parents-trim is_parent_hash_valid 0 (put 0 t i None) (parents-put is_parent_hash_valid 0 t i None h)

hashes_merge_path : (t : Term) (i : ℕ) (x : LeafNode) (keys : List (List ℕ)) → length keys ≡ path_length 0 t i → source_hash x.source ≡ Some (path_parent_hash t i keys) → has_good_hashes t ≡ true → has_good_hashes (merge_path t i x keys) ≡ true
unfolding merge_path path_parent_hash has_good_hashes
hashes_merge_path t i x keys long hash h =
    valid-merge 0 t i (reverse keys) [] x (record { keys = length-reverse keys ∙ long; hash = hash }) h

pub tied_update : (t : Term) (i : ℕ) (x : LeafNode) → IsTied t → IsTied (update t i x)
tied_update t i x h = record { lists = right_update t i x h.lists; hashes = hashes_update t i x h.hashes }

pub tied_remove : (t : Term) (i : ℕ) → IsTied t → IsTied (remove t i)
tied_remove t i h = record { lists = right_remove t i h.lists; hashes = hashes_remove t i h.hashes }

pub tied_add : (t : Term) (x : LeafNode) → IsTied t → IsTied (add t x)
tied_add t x h = record { lists = right_add t x h.lists; hashes = hashes_add t x h }

pub tied_merge_path : (t : Term) (i : ℕ) (x : LeafNode) (keys : List (List ℕ)) → length keys ≡ path_length 0 t i → source_hash x.source ≡ Some (path_parent_hash t i keys) → IsTied t → IsTied (merge_path t i x keys)
tied_merge_path t i x keys long hash h =
    record { lists = right_merge_path t i x keys h.lists; hashes = hashes_merge_path t i x keys long hash h.hashes }
