use Rattle.std.proofs.Common.{◌≡◌, length, ap, arith}
use Rattle.std.specs.Vec.{vec_len}
use Rattle.mls_tree_index.specs.Blocks.{BlockList, are_shared, blocks_of, least_free}
use Rattle.mls_tree_index.proofs.BlockLaws.{own_kept}
use Rattle.mls_tree_index.proofs.RoomLaws.{room_left}
use Rattle.mls_tree_index.proofs.blocks.Blocks.make_own.Goals as goal

pub returns-clause-room : goal.returns-clause-room
returns-clause-room c =
    let vs = c.self.inside.list.items in
    let ws = c.own_all.new.list.items in
    let spares = vec_len c.self.inside.spares in
    let was = c.self.inside.list.ok.0 in
    let now = c.own_all.new.list.ok.0 in
    let long = c.own_all.ensures.len in
    let same : length ws ≡ length vs = omega arith in
    let free = ap least_free c.own_all.ensures.blocks in
    let room = ap (λ (t : BlockList). t.room) c.self.view_is in
    let left = room_left 0 (are_shared vs) (are_shared ws) (blocks_of vs) (blocks_of ws) spares spares (omega arith) (own_kept vs ws same c.own_all.ensures.others) (λ none. omega arith) in
    omega arith
