use Rattle.std.proofs.Common.{arith, sym}
use Rattle.mls_tree_array.proofs.Listed.{below_all, above_all, in_left, in_right}
use Rattle.mls_tree_array.proofs.lists.may_be_listed.Goals as goal
use Rattle.mls_tree_array.proofs.lists.may_be_listed.Goals.{then-leaf-first-via-then-leaf-first, then-leaf-first-via-else-leaf-first+then-leaf-end}

pub returns-then-leaf-first : goal.returns-then-leaf-first
returns-then-leaf-first c =
    elim c.then-leaf-first.branch [
      | then-leaf-first-via-then-leaf-first w ↦ sym (below_all c.args.left.now.first c.args.leaf c.args.left.now.term c.args.right.now.term (omega arith))
      | then-leaf-first-via-else-leaf-first+then-leaf-end w ↦ sym (above_all c.args.left.now.first c.args.leaf c.args.left.now.term c.args.right.now.term (omega arith))
    ]

pub returns-then-leaf-first-2 : goal.returns-then-leaf-first-2
returns-then-leaf-first-2 c =
    rw (in_left c.args.left.now.first c.args.leaf c.args.left.now.term c.args.right.now.term (omega arith) (omega arith))
    c.is_listed.ensures

pub returns : goal.returns
returns c =
    rw (in_right c.args.left.now.first c.args.leaf c.args.left.now.term c.args.right.now.term (omega arith) (omega arith), ← c.requires)
    c.is_listed-2.ensures
