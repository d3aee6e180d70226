use Rattle.std.proofs.Common.{length, arith, sym, ◌∙◌, ap, eqb-true}
use Rattle.std.proofs.lemmas.List.{nil_from_length, take_rest}
use Rattle.mls_leaf.specs.Parent.{rises}
use Rattle.mls_tree_model.specs.Hashes.{tree_hash, original_tree}
use Rattle.mls_tree_model.proofs.MemberLaws.{original_tree-none}
use Rattle.mls_tree_array.proofs.Splitting.{side_lists, left_original, right_original}
use Rattle.mls_tree_array.proofs.Original.{added_leaf, same_leaf, hash_sides, original_sides}
use Rattle.mls_tree_array.proofs.originals.+original_hash.Goals as goal

pub returns-then-is_empty : goal.returns-then-is_empty
returns-then-is_empty t c =
    let none = nil_from_length c.args.unmerged.now (eqb-true (length c.args.unmerged.now) 0 (sym c.is_empty.ensures ∙ c.if-is_empty.true)) in
    c.hash.ensures
    ∙ ap (tree_hash c.args.tree.now.first) (sym (original_tree-none c.args.tree.now.first c.args.tree.now.term))
    ∙ ap (λ us. tree_hash c.args.tree.now.first (original_tree us c.args.tree.now.first c.args.tree.now.term)) (sym none)

pub returns-then-has : goal.returns-then-has
returns-then-has t c =
    rw c.in-Leaf.ensures (c.leaf_hash_without.ensures ∙ sym (rw c.first-first.ensures (added_leaf c.args.unmerged.now c.args.tree.now.first _ (rw c.first-first.ensures at (sym c.has.ensures ∙ c.if-has.true)))))

pub returns-else-has : goal.returns-else-has
returns-else-has t c =
    c.hash-in-Leaf.ensures ∙ rw c.in-Leaf.ensures (same_leaf c.args.unmerged.now c.args.tree.now.first _ (rw c.first-first.ensures at (sym c.has.ensures ∙ c.if-has.false)))

pub original_hash-left-requires : goal.original_hash-left-requires
original_hash-left-requires t c =
    let over = c.in-Branch.ensures in
    (omega arith, (c.count_before-count.ensures.front_rises, (side_lists c.args.tree.now c.in-Branch.left _ c.in-Branch.right c.in-Branch.ensures c.requires.lists).0))

pub original_hash-right-requires : goal.original_hash-right-requires
original_hash-right-requires t c =
    let over = c.in-Branch.ensures in
    (omega arith, (ap (λ us. rises us) (take_rest c.args.unmerged.now c.count_before-count.result) ∙ c.count_before-count.ensures.back_rises, (side_lists c.args.tree.now c.in-Branch.left _ c.in-Branch.right c.in-Branch.ensures c.requires.lists).1))

pub original_root_hash-requires-clause-own : goal.original_root_hash-requires-clause-own
original_root_hash-requires-clause-own t c =
    rw (c.hash-old_left.ensures, c.hash-old_right.ensures, c.parent_in-parent.ensures) (c.hash-own.ensures ∙ hash_sides c.args.tree.now c.in-Branch.left _ c.in-Branch.right c.in-Branch.ensures)

pub returns-in-Branch : goal.returns-in-Branch
returns-in-Branch t c =
    let second = c.in-Branch.right.first in
    let splits = rw c.first.ensures at c.count_before-count.ensures in
    let left = c.original_hash-left.ensures ∙ left_original c.args.tree.now c.in-Branch.left _ c.in-Branch.right c.in-Branch.ensures c.requires.lists c.args.unmerged.now c.count_before-count.result splits in
    let right =
    c.original_hash-right.ensures
    ∙ ap (λ us. tree_hash second (original_tree us second c.in-Branch.right.term)) (take_rest c.args.unmerged.now c.count_before-count.result)
    ∙ right_original c.args.tree.now c.in-Branch.left _ c.in-Branch.right c.in-Branch.ensures c.requires.lists c.args.unmerged.now c.count_before-count.result splits in
    rw (original_sides c.args.unmerged.now c.args.tree.now c.in-Branch.left _ c.in-Branch.right c.in-Branch.ensures, ← c.parent_in-parent.ensures, ← left, ← right)
    c.original_root_hash.ensures
