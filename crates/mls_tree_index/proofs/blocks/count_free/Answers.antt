use Rattle.std.proofs.Common.{length, drop, ap, arith, add-one}
use Rattle.mls_tree_index.specs.Blocks.{blocks_of, least_free}
use Rattle.mls_tree_index.proofs.BlockLaws.{count_of, read_at}
use Rattle.mls_tree_index.proofs.RoomLaws.{least_drop, least_none, least_within}
use Rattle.mls_tree_index.proofs.blocks.count_free.Goals as goal

pub loop-block-init : goal.loop-block-init
loop-block-init c =
    let most = least_within (blocks_of c.args.list.now) in
    record { few = omega arith; free = omega arith }

pub loop-block-preserved : goal.loop-block-preserved
loop-block-preserved c =
    let vs = c.args.list.now in
    let k = c.loop-block.block-index in
    let count = count_of vs in
    let lt = c.loop-block-test.true in
    let before = c.loop-block.invariant.free in
    let few = c.loop-block.invariant.few in
    let read = ap length (read_at vs k c.block-item.result lt c.block-item.is) in
    let same = ap length c.entries.ensures.entries in
    let next = least_drop (blocks_of vs) k (omega arith) in
    let more = ap (λ n. least_free (drop n (blocks_of vs))) (add-one k) in
    let least = c.min-free.ensures in
    record { few = omega arith; free = omega arith }

pub returns : goal.returns
returns c =
    let vs = c.args.list.now in
    let count = count_of vs in
    let past = c.loop-block-test.false in
    let before = c.loop-block.invariant.free in
    let few = c.loop-block.invariant.few in
    let none = least_none (blocks_of vs) c.loop-block.block-index (omega arith) in
    omega arith
