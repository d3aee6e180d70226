use Rattle.std.proofs.Common.{◌≡◌, Some, None, sym, ◌∙◌, arith}
use Rattle.mls_tree_model.specs.Hashes.{is_parent_hash_valid}
use Rattle.mls_tree_model.specs.FirstParents.{first_parent}
use Rattle.mls_tree_model.proofs.Equations.{first_parent_leaf}
use Rattle.mls_tree_array.specs.FirstParents.{NamesFirst, NamesRoot}
use Rattle.mls_tree_array.proofs.Sides.{second}
use Rattle.mls_tree_array.proofs.Splitting.{side_lists}
use Rattle.mls_tree_array.proofs.Ties.{ok_map}
use Rattle.mls_tree_array.proofs.FirstLaws.{first_on_left, first_on_right, first_by_root}
use Rattle.mls_tree_array.proofs.first_parents.+first_invalid.Goals as goal

pub first_invalid-requires : goal.first_invalid-requires
first_invalid-requires t c =
    let over = c.in-Branch.ensures in
    (omega arith, (side_lists c.args.tree.now c.in-Branch.left _ c.in-Branch.right c.in-Branch.ensures c.requires).0)

pub first_invalid-requires-in-None : goal.first_invalid-requires-in-None
first_invalid-requires-in-None t c =
    let over = c.in-Branch.ensures in
    (omega arith, (side_lists c.args.tree.now c.in-Branch.left _ c.in-Branch.right c.in-Branch.ensures c.requires).1)

pub root_with_wrong_hash-requires : goal.root_with_wrong_hash-requires
root_with_wrong_hash-requires t c =
    let lists = side_lists c.args.tree.now c.in-Branch.left _ c.in-Branch.right c.in-Branch.ensures c.requires in
    record { middle = second c.args.tree.now c.in-Branch.left _ c.in-Branch.right c.in-Branch.ensures; left = lists.0; right = lists.1 }

pub returns-in-Leaf : goal.returns-in-Leaf
returns-in-Leaf t c = rw c.in-Leaf.ensures (sym (first_parent_leaf c.args.tree.now.first _ is_parent_hash_valid))

pub returns-in-Some : goal.returns-in-Some
returns-in-Some t c =
    let some : Some c.in-Some.node ≡ first_parent is_parent_hash_valid c.in-Branch.left.first c.in-Branch.left.term = cc (c.in_ok-node-in-Branch.ensures, c.in-Some.is) in
    first_on_left is_parent_hash_valid c.args.tree.now c.in-Branch.left _ c.in-Branch.right c.in-Branch.ensures c.in-Some.node some

pub returns-in-Some-2 : goal.returns-in-Some-2
returns-in-Some-2 t c =
    let none : None ≡ first_parent is_parent_hash_valid c.in-Branch.left.first c.in-Branch.left.term = cc (c.in_ok-node-in-Branch.ensures, c.in-None.is) in
    let some : Some c.in-Some-2.node ≡ first_parent is_parent_hash_valid c.in-Branch.right.first c.in-Branch.right.term = cc (c.in_ok-node-in-None.ensures, c.in-Some-2.is) in
    first_on_right is_parent_hash_valid c.args.tree.now c.in-Branch.left _ c.in-Branch.right c.in-Branch.ensures c.in-Some-2.node none some

pub returns-in-None-2 : goal.returns-in-None-2
returns-in-None-2 t c =
    let none : None ≡ first_parent is_parent_hash_valid c.in-Branch.left.first c.in-Branch.left.term = cc (c.in_ok-node-in-Branch.ensures, c.in-None.is) in
    let also : None ≡ first_parent is_parent_hash_valid c.in-Branch.right.first c.in-Branch.right.term = cc (c.in_ok-node-in-None.ensures, c.in-None-2.is) in
    ok_map
    (NamesRoot is_parent_hash_valid c.args.tree.now c.in-Branch.left c.in-Branch.root.now c.in-Branch.right)
    (NamesFirst is_parent_hash_valid c.args.tree.now)
    c.root_with_wrong_hash.result
    (λ v is. is ∙ first_by_root is_parent_hash_valid c.args.tree.now c.in-Branch.left _ c.in-Branch.right c.in-Branch.ensures none also)
    c.root_with_wrong_hash.ensures
