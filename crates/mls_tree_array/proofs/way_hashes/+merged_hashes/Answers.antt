use Rattle.std.proofs.Common.{ap, ◌∙◌, ◌++◌, ◌∷◌, []}
use Rattle.mls_tree_model.proofs.Equations.{height_leaf}
use Rattle.mls_tree_array.proofs.WayHashes.{made_one, made_in_left, made_in_right}
use Rattle.mls_tree_array.proofs.way_hashes.+merged_hashes.Goals as goal
use Rattle.mls_tree_array.proofs.way_hashes.+merged_hashes.Goals.{then-i-first+in_ok-side-in-Branch, else-i-first+in_ok-side-in-Branch-2}

pub returns-in_ok-push-in-Leaf-clause-hashes : goal.returns-in_ok-push-in-Leaf-clause-hashes
returns-in_ok-push-in-Leaf-clause-hashes t c =
    made_one c.args.tree.now _ c.args.i c.args.parents.now c.args.leaf.now _ _ _ c.in-Leaf.ensures (rw c.first.ensures at c.leaf_hash-hash.ensures.hash) c.in_ok-push-in-Leaf.ensures.items

pub returns-in_ok-push-in-Branch-clause-hashes : goal.returns-in_ok-push-in-Branch-clause-hashes
returns-in_ok-push-in-Branch-clause-hashes t c =
    elim c.if-i-first.branch [
      | then-i-first+in_ok-side-in-Branch w ↦ made_in_left c.args.tree.now c.in-Branch.left _ c.in-Branch.right c.in-Branch.ensures c.args.i c.args.parents.now _ c.args.leaf.now _ _ _ _ _ _ _ _ w.next_parent.ensures.parent w.next_parent.ensures.rest (c.in_ok-push-in-Branch.ensures.items ∙ ap (λ v. v.items ++ (c.if-i-first.hash ∷ [])) w.out-is) (rw c.first-in-Branch.ensures at w.if-i-first.true) w.is_reached.ensures w.hash.ensures w.in_ok-side-in-Branch.ensures.hashes (w.hash-is ∙ w.branch_hash-hash.ensures.hash)
      | else-i-first+in_ok-side-in-Branch-2 w ↦ made_in_right c.args.tree.now c.in-Branch.left _ c.in-Branch.right c.in-Branch.ensures c.args.i c.args.parents.now _ c.args.leaf.now _ _ _ _ _ _ _ _ w.next_parent-else-i-first.ensures.parent w.next_parent-else-i-first.ensures.rest (c.in_ok-push-in-Branch.ensures.items ∙ ap (λ v. v.items ++ (c.if-i-first.hash ∷ [])) w.out-is) (rw c.first-in-Branch.ensures at w.if-i-first.false) w.is_reached-else-i-first.ensures w.hash-else-i-first.ensures w.in_ok-side-in-Branch-2.ensures.hashes (w.hash-is ∙ w.branch_hash-hash-else-i-first.ensures.hash)
    ]

pub returns-in_ok-push-in-Leaf-clause-counted : goal.returns-in_ok-push-in-Leaf-clause-counted
returns-in_ok-push-in-Leaf-clause-counted t c = rw (c.in-Leaf.ensures, height_leaf) c.leaf_hash-hash.ensures.counted
