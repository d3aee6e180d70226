use Rattle.std.proofs.Common.{◌<◌, arith}
use Rattle.mls_cli_draw.proofs.Subtrees.{low_height, next_height}
use Rattle.mls_cli_draw.proofs.svg.+height.Goals as goal

pub returns-then-leaves-le1-clause-height : goal.returns-then-leaves-le1-clause-height
returns-then-leaves-le1-clause-height t c = low_height c.args.leaves c.if-leaves-le1.true

pub returns-else-leaves-le1-clause-height : goal.returns-else-leaves-le1-clause-height
returns-else-leaves-le1-clause-height t c =
    let some : 1 < c.args.leaves = omega (arith, c.if-leaves-le1.false) in
    next_height c.args.leaves c.height.result some c.height.ensures.height
