use Rattle.std.proofs.Common.{◌∙◌, sym, subst, arith, List, ℕ, ◌≡◌, true, insert}
use Rattle.mls_leaf.specs.Parent.{rises, rising_with}
use Rattle.mls_leaf.proofs.ParentLaws.{rises_from-rising_with}
use Rattle.mls_leaf.proofs.parent_node.ParentNode.insert_unmerged.Goals as goal

pub invariant_of-self-2 : goal.invariant_of-self-2
invariant_of-self-2 c =
    let kept = rises_from-rising_with 0 c.args.leaf c.self.inside.unmerged_leaves.items (omega arith) c.self.invariant in
    let put : rising_with c.args.leaf c.self.inside.unmerged_leaves.items ≡ insert c.self.inside.unmerged_leaves.items c.in-Some.place c.args.leaf = rw c.deref.ensures.value at c.in-Some.ensures.1 in
    subst (λ (l : List ℕ). rises l ≡ true) (put ∙ sym c.in_ok-insert.ensures.items) kept
