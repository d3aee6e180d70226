use Rattle.std.proofs.Common.{sym, arith}
use Rattle.mls_treemath.proofs.Meeting.{apart_past, apart_without_tree}
use Rattle.mls_treemath.proofs.common_ancestor.Goals as goal

pub returns-then-last-end : goal.returns-then-last-end
returns-then-last-end c = sym (apart_past c.args.n c.in-Some.height c.args.x c.args.y c.in-Some.ensures (omega arith))

pub returns-in-None : goal.returns-in-None
returns-in-None c = sym (apart_without_tree c.args.n c.args.x c.args.y c.in-None.ensures)
