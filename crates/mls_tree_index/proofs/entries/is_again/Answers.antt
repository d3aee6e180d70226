use Rattle.std.proofs.Common.{arith}
use Rattle.mls_tree_index.specs.Keys.{key_in}
use Rattle.mls_tree_index.proofs.SortLaws.{new_by_fronts}
use Rattle.mls_tree_index.proofs.entries.is_again.Goals as goal

pub returns-then-last-next : goal.returns-then-last-next
returns-then-last-next c =
    let first = c.if-place-eq0.false in
    new_by_fronts (key_in c.args.kind c.args.cells.now.nodes) c.args.entries.now c.requires.listed c.args.place (omega arith) c.requires.within _ _ c.if-last-next.true
