use Rattle.std.proofs.Common.{◌≡◌, arith, sym, refl}
use Rattle.mls_tree_model.specs.Lists.{all_parents}
use Rattle.mls_tree_model.specs.Hashes.{is_parent_hash_valid}
use Rattle.mls_tree_model.proofs.Equations.{all_parents_leaf}
use Rattle.mls_tree_array.proofs.Sides.{second, each_sides}
use Rattle.mls_tree_array.proofs.Splitting.{side_lists}
use Rattle.mls_tree_array.proofs.Ties.{ok_map}
use Rattle.mls_tree_array.proofs.validity.+are_parents_valid.Goals as goal

pub returns-in-Leaf : goal.returns-in-Leaf
returns-in-Leaf t c = rw c.in-Leaf.ensures (sym (all_parents_leaf c.args.tree.now.first _ is_parent_hash_valid))

pub is_root_valid-requires : goal.is_root_valid-requires
is_root_valid-requires t c =
    let lists = side_lists c.args.tree.now c.in-Branch.left _ c.in-Branch.right c.in-Branch.ensures c.requires in
    record { middle = second c.args.tree.now c.in-Branch.left _ c.in-Branch.right c.in-Branch.ensures; left = lists.0; right = lists.1 }

pub are_parents_valid-requires : goal.are_parents_valid-requires
are_parents_valid-requires t c =
    let over = c.in-Branch.ensures in
    (omega arith, (side_lists c.args.tree.now c.in-Branch.left _ c.in-Branch.right c.in-Branch.ensures c.requires).0)

pub are_parents_valid-requires-in-Branch : goal.are_parents_valid-requires-in-Branch
are_parents_valid-requires-in-Branch t c =
    let over = c.in-Branch.ensures in
    (omega arith, (side_lists c.args.tree.now c.in-Branch.left _ c.in-Branch.right c.in-Branch.ensures c.requires).1)

pub returns-then-not-branch : goal.returns-then-not-branch
returns-then-not-branch t c = rw (each_sides c.args.tree.now c.in-Branch.left _ c.in-Branch.right c.in-Branch.ensures is_parent_hash_valid, ← c.in_ok-is_root_valid-in-Branch.ensures, c.if-not-branch.true) refl

pub returns-then-not-branch-2 : goal.returns-then-not-branch-2
returns-then-not-branch-2 t c =
    rw (each_sides c.args.tree.now c.in-Branch.left _ c.in-Branch.right c.in-Branch.ensures is_parent_hash_valid, ← c.in_ok-is_root_valid-in-Branch.ensures, c.if-not-branch.false, ← c.in_ok-are_parents_valid-in-Branch.ensures, c.if-not-branch-2.true) refl

pub returns-else-not-branch-2 : goal.returns-else-not-branch-2
returns-else-not-branch-2 t c =
    ok_map
    (λ v. v ≡ all_parents is_parent_hash_valid c.in-Branch.right.first c.in-Branch.right.term)
    (λ v. v ≡ all_parents is_parent_hash_valid c.args.tree.now.first c.args.tree.now.term)
    c.are_parents_valid-in-Branch.result
    (λ v right. rw (each_sides c.args.tree.now c.in-Branch.left _ c.in-Branch.right c.in-Branch.ensures is_parent_hash_valid, ← c.in_ok-is_root_valid-in-Branch.ensures, c.if-not-branch.false, ← c.in_ok-are_parents_valid-in-Branch.ensures, c.if-not-branch-2.false) right)
    c.are_parents_valid-in-Branch.ensures
