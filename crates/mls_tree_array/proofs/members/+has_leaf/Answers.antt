use Rattle.std.proofs.Common.{arith, sym, ◌∙◌}
use Rattle.std.proofs.lemmas.Nat.{one_shl}
use Rattle.mls_tree_array.proofs.Blanks.{side_nodes, has_sides, has_left}
use Rattle.mls_tree_array.proofs.members.+has_leaf.Goals as goal

pub returns-then-nodes-middle : goal.returns-then-nodes-middle
returns-then-nodes-middle t c =
    let power = one_shl c.args.height 64 (omega arith) in
    let side = side_nodes c.args.height _ (omega arith) power in
    c.has_leaf.ensures ∙ sym (has_left c.args.height _ c.args.nodes.now (omega arith) side c.if-nodes-middle.true)

pub returns-then-left : goal.returns-then-left
returns-then-left t c =
    let power = one_shl c.args.height 64 (omega arith) in
    let side = side_nodes c.args.height _ (omega arith) power in
    rw (has_sides c.args.height _ c.args.nodes.now (omega arith) side, ← c.has_leaf-left.ensures, c.if-left.true)

pub returns-else-left : goal.returns-else-left
returns-else-left t c =
    let power = one_shl c.args.height 64 (omega arith) in
    let side = side_nodes c.args.height _ (omega arith) power in
    rw (has_sides c.args.height _ c.args.nodes.now (omega arith) side, ← c.has_leaf-left.ensures, c.if-left.false) c.has_leaf-else-left.ensures
