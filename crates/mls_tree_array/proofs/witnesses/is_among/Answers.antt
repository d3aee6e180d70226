use Rattle.std.proofs.Common.{arith, sym, ◌∙◌}
use Rattle.mls_tree_array.proofs.Others.{odd_off, low_off, high_off, between}
use Rattle.mls_tree_array.proofs.witnesses.is_among.Goals as goal
use Rattle.mls_tree_array.proofs.witnesses.is_among.Goals.{then-leaf-from-via-then-leaf-from, then-leaf-from-via-else-leaf-from+then-leaf-from-2}

pub returns-then-node-eq1 : goal.returns-then-node-eq1
returns-then-node-eq1 c = sym (odd_off c.args.first c.args.end c.args.node c.args.leaves.now c.if-node-eq1.true)

pub returns-then-leaf-from : goal.returns-then-leaf-from
returns-then-leaf-from c =
    elim c.then-leaf-from.branch [
      | then-leaf-from-via-then-leaf-from w ↦ sym (low_off c.args.first c.args.end c.args.node c.args.leaves.now (omega arith) (omega arith))
      | then-leaf-from-via-else-leaf-from+then-leaf-from-2 w ↦ sym (high_off c.args.first c.args.end c.args.node c.args.leaves.now (omega arith) c.requires.order (omega arith))
    ]

pub returns : goal.returns
returns c = c.has.ensures ∙ sym (between c.args.first c.args.end c.args.node c.args.leaves.now (omega arith) (omega arith) (omega arith))
