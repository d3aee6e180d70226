use Rattle.std.proofs.Common.{◌≡◌, subst, arith}
use Rattle.mls_tree_index.specs.Searches.{EndsHigh}
use Rattle.mls_tree_index.proofs.blocks.Blocks.block_for.Goals as goal

pub returns-clause-high : goal.returns-clause-high
returns-clause-high c =
    let same : c.loop-start.end ≡ c.loop-start.start = omega (arith, c.loop-start-test.false, c.loop-start.invariant.order) in
    subst (λ n. EndsHigh c.args.kind c.args.cells.now.nodes c.args.key.now c.args.entry c.args.self.now.blocks n) same c.loop-start.invariant.high
