use Rattle.std.proofs.Common.{◌-◌, length, set, sym, ◌∙◌, ap, subst, arith, inl, inr}
use Rattle.std.specs.List.{insert}
use Rattle.std.specs.Vec.{vec_len}
use Rattle.std.proofs.lemmas.Bool.{cases_Bool}
use Rattle.std.proofs.lemmas.List.Edits.{length-insert}
use Rattle.mls_tree_index.specs.Block.{BlockEntries}
use Rattle.mls_tree_index.specs.Blocks.{AreBlocks, BlockList, are_shared, blocks_of, joined, least_free, place_of}
use Rattle.mls_tree_index.proofs.BlockLaws.{blocks_set, count_of, insert_in, own_set, own_within, read_at, set_at}
use Rattle.mls_tree_index.proofs.RoomLaws.{least_at, least_set, room_left, room_own, room_shared}
use Rattle.mls_tree_index.proofs.blocks.Blocks.insert.Goals as goal

pub invariant_of-self : goal.invariant_of-self
invariant_of-self c =
    let vs = c.make_way-spot.new.list.items in
    let b = c.make_way-spot.result.block in
    let v = c.put_in.new.self in
    let old = c.index_mut.result.now in
    let kept = c.make_way-spot.ensures.kept in
    let lt = own_within vs b c.make_way-spot.ensures.own in
    let within = c.make_way-spot.ensures.spot.offset in
    let read = ap length (read_at vs b old lt c.index_mut.ensures.value) in
    let more = length-insert old.entries c.make_way-spot.result.offset c.args.entry (omega arith) in
    let len = ap (λ (w : BlockEntries). length w.entries) c.put_in.ensures in
    record {
      blocks = subst AreBlocks (sym (set_at vs b v)) (blocks_set (blocks_of vs) b v.entries (omega arith) kept.blocks);
      spare = kept.spare;
      room = kept.room;
    }

pub returns-clause-entries : goal.returns-clause-entries
returns-clause-entries c =
    let vs = c.make_way-spot.new.list.items in
    let b = c.make_way-spot.result.block in
    let o = c.make_way-spot.result.offset in
    let found = c.make_way-spot.ensures.spot in
    let lt = own_within vs b c.make_way-spot.ensures.own in
    let items = ap (λ (w : BlockEntries). w.entries) c.put_in.ensures ∙ ap (λ ns. insert ns o c.args.entry) (read_at vs b c.index_mut.result.now lt c.index_mut.ensures.value) in
    ap joined (set_at vs b c.put_in.new.self ∙ ap (set (blocks_of vs) b) items)
    ∙ insert_in (blocks_of vs) b o c.args.entry found.block found.offset
    ∙ ap (λ ns. insert ns (place_of (blocks_of vs) c.make_way-spot.result) c.args.entry) c.make_way-spot.ensures.entries
    ∙ ap (λ n. insert (joined (blocks_of c.own_block.new.list.items)) n c.args.entry) c.make_way-spot.ensures.place
    ∙ ap (λ bs. insert (joined bs) (place_of bs c.args.spot) c.args.entry) c.own_block.ensures.blocks
    ∙ ap (λ (t : BlockList). insert (joined t.blocks) (place_of t.blocks c.args.spot) c.args.entry) c.self.view_is

pub returns-clause-own : goal.returns-clause-own
returns-clause-own c = λ none.
    own_set c.make_way-spot.new.list.items c.make_way-spot.result.block c.put_in.new.self (ap (λ (w : BlockEntries). w.shared) c.put_in.ensures)
    (c.make_way-spot.ensures.others (c.own_block.ensures.others (ap (λ (t : BlockList). t.shared) c.self.view_is ∙ none)))

pub own_block-requires-clause-room : goal.own_block-requires-clause-room
own_block-requires-clause-room c = λ on.
    let some = c.requires.room in
    let room = ap (λ (t : BlockList). t.room) c.self.view_is in
    let spares = room_shared (are_shared c.self.inside.list.items) (blocks_of c.self.inside.list.items) (vec_len c.self.inside.spares) on in
    omega arith

pub make_way-spot-requires-clause-room : goal.make_way-spot-requires-clause-room
make_way-spot-requires-clause-room c =
    let vs = c.self.inside.list.items in
    let some = c.requires.room in
    let room = ap (λ (t : BlockList). t.room) c.self.view_is in
    let left = c.own_block.ensures.room in
    let free = ap least_free c.own_block.ensures.blocks in
    elim (cases_Bool (are_shared vs)) [
      | inl on ↦ let spares = room_shared (are_shared vs) (blocks_of vs) (vec_len c.self.inside.spares) on in omega arith
      | inr none ↦
          let spares = room_own (are_shared vs) (blocks_of vs) (vec_len c.self.inside.spares) none in
          let same = c.own_block.ensures.stays none in
          omega arith
    ]

pub returns-clause-room : goal.returns-clause-room
returns-clause-room c =
    let us = c.self.inside.list.items in
    let vs = c.make_way-spot.new.list.items in
    let b = c.make_way-spot.result.block in
    let o = c.make_way-spot.result.offset in
    let v = c.put_in.new.self in
    let old = c.index_mut.result.now in
    let lt = own_within vs b c.make_way-spot.ensures.own in
    let count = count_of vs in
    let within = c.make_way-spot.ensures.spot.offset in
    let read = ap length (read_at vs b old lt c.index_mut.ensures.value) in
    let more = length-insert old.entries o c.args.entry (omega arith) in
    let len = ap (λ (w : BlockEntries). length w.entries) c.put_in.ensures in
    let room = ap (λ (t : BlockList). t.room) c.self.view_is in
    let one = c.own_block.ensures.room in
    let two = c.make_way-spot.ensures.room in
    let own = ap (λ (w : BlockEntries). w.shared) c.put_in.ensures in
    let least = least_at (blocks_of vs) b (omega arith) in
    let kept = least_set (least_free (blocks_of vs) - 1) (blocks_of vs) b v.entries (omega arith) (omega arith) in
    let put = ap least_free (set_at vs b v) in
    let same = ap least_free c.own_block.ensures.blocks in
    let way = c.make_way-spot.ensures.free in
    let left = room_left 2 (are_shared us) (are_shared (set vs b v)) (blocks_of us) (blocks_of (set vs b v)) (vec_len c.self.inside.spares) (vec_len c.make_way-spot.new.spares) (omega arith)
    (λ none. own_set vs b v own (c.make_way-spot.ensures.others (c.own_block.ensures.others none)))
    (λ none. let stays = c.own_block.ensures.stays none in omega arith) in
    omega arith
