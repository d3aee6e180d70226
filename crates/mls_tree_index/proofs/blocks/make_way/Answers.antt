use Rattle.std.proofs.Common.{◌≡◌, ◌+◌, ◌-◌, [], get_or, length, refl, sym, ◌∙◌, ap, subst, arith, add-one}
use Rattle.std.specs.List.{All}
use Rattle.std.specs.Vec.{vec_len}
use Rattle.std.proofs.lemmas.List.Elements.{All-take}
use Rattle.mls_tree_index.specs.declared.blocks.Spot.{Spot}
use Rattle.mls_tree_index.specs.Block.{IsSpare}
use Rattle.mls_tree_index.specs.Blocks.{AreBlocks, IsOpenAt, blocks_of, joined, place_in, place_of}
use Rattle.mls_tree_index.proofs.BlockLaws.{count_of, place_here, read_at, split_blocks, split_here, split_entries, split_there, place_there}
use Rattle.mls_tree_index.proofs.RoomLaws.{least_at}
use Rattle.mls_tree_index.proofs.blocks.make_way.Goals as goal

pub returns-in_default-clause-spot : goal.returns-in_default-clause-spot
returns-in_default-clause-spot c =
    let vs = c.args.list.now.items in
    let b = c.args.spot.block in
    let lt = c.requires.spot.block in
    let count = count_of vs in
    let size = ap length (c.entries.ensures.entries ∙ read_at vs b c.index.result.now (omega arith) c.index.ensures) in
    let few = c.entries.ensures.few in
    let ge = c.if-entries-lt-BLOCK_SIZE.false in
    let full : length (get_or (blocks_of vs) b []) ≡ 512 = omega arith in
    let least = least_at (blocks_of vs) b lt in
    let some = c.requires.room in
    let none = c.in_default.ensures.cases in
    absurd (omega arith)

pub returns-then-spot-le-HALF_SIZE-clause-free : goal.returns-then-spot-le-HALF_SIZE-clause-free
returns-then-spot-le-HALF_SIZE-clause-free c =
    let vs = c.args.list.now.items in
    let b = c.args.spot.block in
    let lt = c.requires.spot.block in
    let count = count_of vs in
    let size = ap length (c.entries.ensures.entries ∙ read_at vs b c.index.result.now (omega arith) c.index.ensures) in
    let few = c.entries.ensures.few in
    let ge = c.if-entries-lt-BLOCK_SIZE.false in
    let full : length (get_or (blocks_of vs) b []) ≡ 512 = omega arith in
    let least = least_at (blocks_of vs) b lt in
    let less = c.pop.ensures.cases in
    let more = c.in-Some.ensures.cases in
    omega arith

pub returns-clause-free : goal.returns-clause-free
returns-clause-free c =
    let vs = c.args.list.now.items in
    let b = c.args.spot.block in
    let lt = c.requires.spot.block in
    let count = count_of vs in
    let size = ap length (c.entries.ensures.entries ∙ read_at vs b c.index.result.now (omega arith) c.index.ensures) in
    let few = c.entries.ensures.few in
    let ge = c.if-entries-lt-BLOCK_SIZE.false in
    let full : length (get_or (blocks_of vs) b []) ≡ 512 = omega arith in
    let least = least_at (blocks_of vs) b lt in
    let less = c.pop.ensures.cases in
    let more = c.in-Some.ensures.cases in
    omega arith

pub returns-then-spot-le-HALF_SIZE-clause-kept : goal.returns-then-spot-le-HALF_SIZE-clause-kept
returns-then-spot-le-HALF_SIZE-clause-kept c =
    let vs = c.args.list.now.items in
    let b = c.args.spot.block in
    let lt = c.requires.spot.block in
    let count = count_of vs in
    let size = ap length (c.entries.ensures.entries ∙ read_at vs b c.index.result.now (omega arith) c.index.ensures) in
    let few = c.entries.ensures.few in
    let ge = c.if-entries-lt-BLOCK_SIZE.false in
    let full : length (get_or (blocks_of vs) b []) ≡ 512 = omega arith in
    let kept = c.requires.kept in
    let long = c.split_block.ensures.len in
    let wide = c.split_block.ensures.capacity in
    let some = c.requires.room in
    let less = c.pop.ensures.cases in
    let more = c.in-Some.ensures.cases in
    let room = kept.room in
    record {
      blocks = subst AreBlocks (sym c.split_block.ensures.blocks) (split_blocks (blocks_of vs) b lt full kept.blocks);
      spare = subst (All IsSpare) (sym c.pop.ensures.rest) (All-take IsSpare (vec_len c.args.spares.now - 1) c.args.spares.now.items kept.spare);
      room = omega arith;
    }

pub returns-then-spot-le-HALF_SIZE-clause-entries : goal.returns-then-spot-le-HALF_SIZE-clause-entries
returns-then-spot-le-HALF_SIZE-clause-entries c =
    let vs = c.args.list.now.items in
    let b = c.args.spot.block in
    let lt = c.requires.spot.block in
    let count = count_of vs in
    let size = ap length (c.entries.ensures.entries ∙ read_at vs b c.index.result.now (omega arith) c.index.ensures) in
    let few = c.entries.ensures.few in
    let ge = c.if-entries-lt-BLOCK_SIZE.false in
    let full : length (get_or (blocks_of vs) b []) ≡ 512 = omega arith in
    ap joined c.split_block.ensures.blocks ∙ split_entries (blocks_of vs) b lt full

pub returns-then-spot-le-HALF_SIZE-clause-spot : goal.returns-then-spot-le-HALF_SIZE-clause-spot
returns-then-spot-le-HALF_SIZE-clause-spot c =
    let vs = c.args.list.now.items in
    let b = c.args.spot.block in
    let lt = c.requires.spot.block in
    let count = count_of vs in
    let size = ap length (c.entries.ensures.entries ∙ read_at vs b c.index.result.now (omega arith) c.index.ensures) in
    let few = c.entries.ensures.few in
    let ge = c.if-entries-lt-BLOCK_SIZE.false in
    let full : length (get_or (blocks_of vs) b []) ≡ 512 = omega arith in
    subst (λ bs. IsOpenAt bs c.args.spot) (sym c.split_block.ensures.blocks) (split_here (blocks_of vs) b lt full c.args.spot refl c.if-spot-le-HALF_SIZE.true)

pub returns-then-spot-le-HALF_SIZE-clause-place : goal.returns-then-spot-le-HALF_SIZE-clause-place
returns-then-spot-le-HALF_SIZE-clause-place c =
    let vs = c.args.list.now.items in
    let b = c.args.spot.block in
    let lt = c.requires.spot.block in
    let count = count_of vs in
    let size = ap length (c.entries.ensures.entries ∙ read_at vs b c.index.result.now (omega arith) c.index.ensures) in
    let few = c.entries.ensures.few in
    let ge = c.if-entries-lt-BLOCK_SIZE.false in
    let full : length (get_or (blocks_of vs) b []) ≡ 512 = omega arith in
    ap (λ bs. place_of bs c.args.spot) c.split_block.ensures.blocks ∙ place_here (blocks_of vs) b lt full c.args.spot refl

pub returns-clause-kept : goal.returns-clause-kept
returns-clause-kept c =
    let vs = c.args.list.now.items in
    let b = c.args.spot.block in
    let lt = c.requires.spot.block in
    let count = count_of vs in
    let size = ap length (c.entries.ensures.entries ∙ read_at vs b c.index.result.now (omega arith) c.index.ensures) in
    let few = c.entries.ensures.few in
    let ge = c.if-entries-lt-BLOCK_SIZE.false in
    let full : length (get_or (blocks_of vs) b []) ≡ 512 = omega arith in
    let kept = c.requires.kept in
    let long = c.split_block.ensures.len in
    let wide = c.split_block.ensures.capacity in
    let some = c.requires.room in
    let less = c.pop.ensures.cases in
    let more = c.in-Some.ensures.cases in
    let room = kept.room in
    record {
      blocks = subst AreBlocks (sym c.split_block.ensures.blocks) (split_blocks (blocks_of vs) b lt full kept.blocks);
      spare = subst (All IsSpare) (sym c.pop.ensures.rest) (All-take IsSpare (vec_len c.args.spares.now - 1) c.args.spares.now.items kept.spare);
      room = omega arith;
    }

pub returns-clause-entries : goal.returns-clause-entries
returns-clause-entries c =
    let vs = c.args.list.now.items in
    let b = c.args.spot.block in
    let lt = c.requires.spot.block in
    let count = count_of vs in
    let size = ap length (c.entries.ensures.entries ∙ read_at vs b c.index.result.now (omega arith) c.index.ensures) in
    let few = c.entries.ensures.few in
    let ge = c.if-entries-lt-BLOCK_SIZE.false in
    let full : length (get_or (blocks_of vs) b []) ≡ 512 = omega arith in
    ap joined c.split_block.ensures.blocks ∙ split_entries (blocks_of vs) b lt full

pub returns-clause-spot : goal.returns-clause-spot
returns-clause-spot c =
    let vs = c.args.list.now.items in
    let b = c.args.spot.block in
    let lt = c.requires.spot.block in
    let count = count_of vs in
    let size = ap length (c.entries.ensures.entries ∙ read_at vs b c.index.result.now (omega arith) c.index.ensures) in
    let few = c.entries.ensures.few in
    let ge = c.if-entries-lt-BLOCK_SIZE.false in
    let full : length (get_or (blocks_of vs) b []) ≡ 512 = omega arith in
    let within = c.requires.spot.offset in
    let next : Spot = record { block = b + 1; offset = c.args.spot.offset - 256 } in
    subst (λ bs. IsOpenAt bs next) (sym c.split_block.ensures.blocks) (split_there (blocks_of vs) b lt full next (add-one b) (omega arith))

pub returns-clause-place : goal.returns-clause-place
returns-clause-place c =
    let vs = c.args.list.now.items in
    let b = c.args.spot.block in
    let lt = c.requires.spot.block in
    let count = count_of vs in
    let size = ap length (c.entries.ensures.entries ∙ read_at vs b c.index.result.now (omega arith) c.index.ensures) in
    let few = c.entries.ensures.few in
    let ge = c.if-entries-lt-BLOCK_SIZE.false in
    let full : length (get_or (blocks_of vs) b []) ≡ 512 = omega arith in
    let past = c.if-spot-le-HALF_SIZE.false in
    let next : Spot = record { block = b + 1; offset = c.args.spot.offset - 256 } in
    let same : (c.args.spot.offset - 256) + 256 ≡ c.args.spot.offset = omega arith in
    ap (λ bs. place_of bs next) c.split_block.ensures.blocks ∙ place_there (blocks_of vs) b lt full next (add-one b) ∙ ap (place_in (blocks_of vs) b) same
