use Rattle.std.proofs.Common.{sym, ◌∙◌, arith}
use Rattle.mls_tree_index.specs.Blocks.{are_shared, blocks_of}
use Rattle.mls_tree_index.proofs.RoomLaws.{room_own, room_shared}
use Rattle.mls_tree_index.proofs.blocks.spares_for.Goals as goal

pub returns-then-are_shared : goal.returns-then-are_shared
returns-then-are_shared c =
    let room = room_shared (are_shared c.args.list.now) (blocks_of c.args.list.now) c.args.count (sym c.are_shared.ensures ∙ c.if-are_shared.true) in
    omega arith

pub returns : goal.returns
returns c =
    let room = room_own (are_shared c.args.list.now) (blocks_of c.args.list.now) c.saturating_sub.result (sym c.are_shared.ensures ∙ c.if-are_shared.false) in
    let free = c.count_free.ensures in
    let rest = c.saturating_sub.ensures in
    omega arith
