use Rattle.std.proofs.Common.{length, ap, subst, arith}
use Rattle.mls_tree_index.specs.Entries.{BeginsWithBytes}
use Rattle.mls_tree_index.specs.Searches.{IsHighAt, IsLowBefore}
use Rattle.mls_tree_index.proofs.SearchLaws.{known_first, known_other, known_within, spot_gap}
use Rattle.mls_tree_index.proofs.blocks.Blocks.spot_of.Goals as goal

pub returns-clause-gap : goal.returns-clause-gap
returns-clause-gap c =
    let kind = c.args.kind in
    let cells = c.args.cells.now.nodes in
    let key = c.args.key.now in
    let e = c.args.entry in
    let bytes : BeginsWithBytes key = record { first = omega (arith, c.type_inv.key 0); second = omega (arith, c.type_inv.key 1); third = omega (arith, c.type_inv.key 2); fourth = omega (arith, c.type_inv.key 3) } in
    let bs = c.args.self.now.blocks in
    let b = c.block_for-block.result in
    let found = c.block_for-block.ensures in
    let o = c.count_before-offset.result in
    let count = c.count_before-offset.ensures in
    let known = c.from-known.result in
    let same = c.block.ensures.entries in
    let wide = ap length same in
    let within = count.within in
    spot_gap kind cells key e bs found.blocks bytes c.requires b o known found.block (omega arith) (known_first b known c.from-known.ensures) (known_other b known c.from-known.ensures) count.order found.low
    (subst (λ ns. IsLowBefore kind cells key e ns known o) same count.low)
    (subst (λ ns. IsHighAt kind cells key e ns o) same count.high)
    found.high

pub count_before-offset-requires : goal.count_before-offset-requires
count_before-offset-requires c =
    known_within c.block_for-block.result c.from-known.result (length c.block.result.now) c.from-known.ensures c.block.ensures.full
