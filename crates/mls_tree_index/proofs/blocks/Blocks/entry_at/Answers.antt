use Rattle.std.proofs.Common.{length, get_or, sym, ◌∙◌, ap, arith, add-one, []}
use Rattle.mls_tree_index.specs.Entries.{blank_entry}
use Rattle.mls_tree_index.proofs.BlockLaws.{block_within, entry_in, next_entry, no_entry}
use Rattle.mls_tree_index.proofs.blocks.Blocks.entry_at.Goals as goal

pub returns-then-spot-block : goal.returns-then-spot-block
returns-then-spot-block c =
    let bs = c.args.self.now.blocks in
    let entries = c.block-block.ensures.entries in
    let same = ap length entries in
    let less = c.if-spot-block.true in
    let within = block_within bs c.args.spot.block c.requires.block in
    (omega arith, entry_in bs c.args.spot.block c.args.spot.offset c.requires.block (omega arith) ∙ ap (λ ns. get_or ns c.args.spot.offset blank_entry) (sym entries) ∙ sym c.entry_in-own.ensures)

pub returns-then-spot-last : goal.returns-then-spot-last
returns-then-spot-last c =
    let bs = c.args.self.now.blocks in
    let b = c.args.spot.block in
    let same = ap length c.block-block.ensures.entries in
    let past = c.if-spot-block.false in
    let low = c.requires.offset in
    let count = c.count-last.ensures.count in
    let more = c.if-spot-last.true in
    let one = add-one b in
    let entries = c.block.ensures.entries ∙ ap (λ n. get_or bs n []) one in
    let full = c.block.ensures.full (omega arith) in
    let wide = ap length entries in
    let found = next_entry bs b c.args.spot.offset c.requires.block (omega arith) (omega arith) (omega arith) in
    (found.0, found.1 ∙ ap (λ ns. get_or ns 0 blank_entry) (sym entries) ∙ sym c.entry_in-next.ensures)

pub returns : goal.returns
returns c =
    let same = ap length c.block-block.ensures.entries in
    let past = c.if-spot-block.false in
    let count = c.count-last.ensures.count in
    let few = c.if-spot-last.false in
    let lt = c.requires.block in
    no_entry c.args.self.now.blocks c.args.spot.block c.args.spot.offset lt (omega arith) (omega arith)
