use Rattle.std.proofs.Common.{arith}
use Rattle.mls_treemath.proofs.Meeting.{turn_left, turn_right, no_turn}
use Rattle.mls_treemath.proofs.step_down.Goals as goal

pub returns-then-rightmost-node : goal.returns-then-rightmost-node
returns-then-rightmost-node c = λ n h k is up r. turn_left n c.args.x c.args.y h k _ _ is up r (omega arith)

pub returns-then-node-leftmost : goal.returns-then-node-leftmost
returns-then-node-leftmost c = λ n h k is up r. turn_right n c.args.x c.args.y h k _ _ is up r (omega arith)

pub returns-else-node-leftmost : goal.returns-else-node-leftmost
returns-else-node-leftmost c = λ n h k is up r. no_turn n c.args.x c.args.y h k _ up r (omega arith) (omega arith)
