use Rattle.std.proofs.Common.{◌+◌, [], get_or, length, ◌∙◌, ap, arith, add-one}
use Rattle.std.specs.List.{remove}
use Rattle.mls_tree_index.specs.Blocks.{joined}
use Rattle.mls_tree_index.proofs.BlockLaws.{block_within, blocks_full, next_entry, no_entry, place_end}
use Rattle.mls_tree_index.proofs.blocks.Blocks.remove.Goals as goal

pub take-requires-then-spot-last-clause-offset : goal.take-requires-then-spot-last-clause-offset
take-requires-then-spot-last-clause-offset c =
    let count = c.count-last.ensures.count in
    let more = c.if-spot-last.true in
    blocks_full c.args.self.now.blocks (c.args.spot.block + 1) c.count-last.ensures.blocks (omega arith) (omega arith)

pub returns-then-spot-block-clause-none : goal.returns-then-spot-block-clause-none
returns-then-spot-block-clause-none c = λ past.
    let less = c.if-spot-block.true in
    let same = ap length c.block-block.ensures.entries in
    let inside = block_within c.args.self.now.blocks c.args.spot.block c.requires.spot.block in
    absurd (omega arith)

pub returns-then-spot-last-clause-some : goal.returns-then-spot-last-clause-some
returns-then-spot-last-clause-some c = λ inside.
    let bs = c.args.self.now.blocks in
    let same = ap length c.block-block.ensures.entries in
    let past = c.if-spot-block.false in
    let low = c.requires.spot.offset in
    c.take-then-spot-last.ensures.entries ∙ ap (remove (joined bs)) (place_end bs c.args.spot.block c.args.spot.offset c.requires.spot.block (omega arith))

pub returns-then-spot-last-clause-none : goal.returns-then-spot-last-clause-none
returns-then-spot-last-clause-none c = λ past.
    let bs = c.args.self.now.blocks in
    let same = ap length c.block-block.ensures.entries in
    let end = c.if-spot-block.false in
    let low = c.requires.spot.offset in
    let count = c.count-last.ensures.count in
    let more = c.if-spot-last.true in
    let one = add-one c.args.spot.block in
    let full = blocks_full bs (c.args.spot.block + 1) c.count-last.ensures.blocks (omega arith) (omega arith) in
    let wide = ap (λ n. length (get_or bs n [])) one in
    let found = (next_entry bs c.args.spot.block c.args.spot.offset c.requires.spot.block (omega arith) (omega arith) (omega arith)).0 in
    absurd (omega arith)

pub returns-else-spot-last-clause-some : goal.returns-else-spot-last-clause-some
returns-else-spot-last-clause-some c = λ inside.
    let same = ap length c.block-block.ensures.entries in
    let end = c.if-spot-block.false in
    let count = c.count-last.ensures.count in
    let few = c.if-spot-last.false in
    let lt = c.requires.spot.block in
    let last = no_entry c.args.self.now.blocks c.args.spot.block c.args.spot.offset lt (omega arith) (omega arith) in
    absurd (omega arith)
