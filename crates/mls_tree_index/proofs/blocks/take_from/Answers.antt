use Rattle.std.proofs.Common.{◌≤◌, [], get_or, length, set, sym, ◌∙◌, ap, subst, arith}
use Rattle.std.specs.List.{remove}
use Rattle.std.proofs.lemmas.List.Edits.{length-remove}
use Rattle.mls_tree_index.specs.Block.{BlockEntries}
use Rattle.mls_tree_index.specs.Blocks.{AreBlocks, are_shared, blocks_of, joined, least_free}
use Rattle.mls_tree_index.proofs.BlockLaws.{blocks_left, blocks_only, blocks_set, count_of, empty_goes, map_remove, own_remove, own_set, own_within, read_at, remove_in, set_at}
use Rattle.mls_tree_index.proofs.RoomLaws.{least_at, least_remove, least_set}
use Rattle.mls_tree_index.proofs.blocks.take_from.Goals as goal

pub returns-then-left-gt0-clause-blocks : goal.returns-then-left-gt0-clause-blocks
returns-then-left-gt0-clause-blocks c =
    let vs = c.args.list.now.items in
    let v = c.take_out-left.new.self in
    let some = c.if-left-gt0.true in
    let left = c.take_out-left.ensures.left in
    subst AreBlocks (sym (set_at vs c.args.b v)) (blocks_set (blocks_of vs) c.args.b v.entries (omega arith) c.requires.blocks)

pub returns-then-left-gt0-clause-entries : goal.returns-then-left-gt0-clause-entries
returns-then-left-gt0-clause-entries c =
    let vs = c.args.list.now.items in
    let b = c.args.b in
    let o = c.args.offset in
    let v = c.take_out-left.new.self in
    let count = count_of vs in
    let lt = own_within vs b c.requires.own in
    let items = ap (λ (w : BlockEntries). w.entries) c.take_out-left.ensures.entries ∙ ap (λ ns. remove ns o) (read_at vs b c.index_mut.result.now lt c.index_mut.ensures.value) in
    ap joined (set_at vs b v ∙ ap (set (blocks_of vs) b) items) ∙ remove_in (blocks_of vs) b o (omega arith) c.requires.offset

pub returns-then-left-gt0-clause-others : goal.returns-then-left-gt0-clause-others
returns-then-left-gt0-clause-others c = λ none.
    own_set c.args.list.now.items c.args.b c.take_out-left.new.self (ap (λ (w : BlockEntries). w.shared) c.take_out-left.ensures.entries) none

pub returns-then-len-gt1-clause-blocks : goal.returns-then-len-gt1-clause-blocks
returns-then-len-gt1-clause-blocks c =
    let vs = c.args.list.now.items in
    let b = c.args.b in
    let v = c.take_out-left.new.self in
    let ok = c.args.list.now.ok.0 in
    let more = c.if-len-gt1.true in
    let long = c.len.ensures in
    subst (λ us. AreBlocks (blocks_of us)) (sym c.remove-block.ensures.items) (blocks_left vs b v (omega arith) c.requires.blocks)

pub returns-then-len-gt1-clause-entries : goal.returns-then-len-gt1-clause-entries
returns-then-len-gt1-clause-entries c =
    let vs = c.args.list.now.items in
    let b = c.args.b in
    let o = c.args.offset in
    let v = c.take_out-left.new.self in
    let count = count_of vs in
    let lt = own_within vs b c.requires.own in
    let items = ap (λ (w : BlockEntries). w.entries) c.take_out-left.ensures.entries ∙ ap (λ ns. remove ns o) (read_at vs b c.index_mut.result.now lt c.index_mut.ensures.value) in
    let none = c.if-left-gt0.false in
    let left = c.take_out-left.ensures.left in
    ap (λ us. joined (blocks_of us)) c.remove-block.ensures.items
    ∙ empty_goes vs b v lt (omega arith)
    ∙ ap joined (set_at vs b v ∙ ap (set (blocks_of vs) b) items)
    ∙ remove_in (blocks_of vs) b o (omega arith) c.requires.offset

pub returns-then-len-gt1-clause-others : goal.returns-then-len-gt1-clause-others
returns-then-len-gt1-clause-others c = λ none.
    let vs = c.args.list.now.items in
    let v = c.take_out-left.new.self in
    ap are_shared c.remove-block.ensures.items
    ∙ own_remove (set vs c.args.b v) c.args.b (own_set vs c.args.b v (ap (λ (w : BlockEntries). w.shared) c.take_out-left.ensures.entries) none)

pub returns-else-len-gt1-clause-blocks : goal.returns-else-len-gt1-clause-blocks
returns-else-len-gt1-clause-blocks c =
    let vs = c.args.list.now.items in
    let b = c.args.b in
    let v = c.take_out-left.new.self in
    let count = count_of vs in
    let ok = c.args.list.now.ok.0 in
    let one = c.if-len-gt1.false in
    let long = c.len.ensures in
    subst AreBlocks (sym (set_at vs b v)) (blocks_only (blocks_of vs) b v.entries (omega arith) c.requires.blocks)

pub returns-else-len-gt1-clause-entries : goal.returns-else-len-gt1-clause-entries
returns-else-len-gt1-clause-entries c =
    let vs = c.args.list.now.items in
    let b = c.args.b in
    let o = c.args.offset in
    let v = c.take_out-left.new.self in
    let count = count_of vs in
    let lt = own_within vs b c.requires.own in
    let items = ap (λ (w : BlockEntries). w.entries) c.take_out-left.ensures.entries ∙ ap (λ ns. remove ns o) (read_at vs b c.index_mut.result.now lt c.index_mut.ensures.value) in
    ap joined (set_at vs b v ∙ ap (set (blocks_of vs) b) items) ∙ remove_in (blocks_of vs) b o (omega arith) c.requires.offset

pub returns-else-len-gt1-clause-others : goal.returns-else-len-gt1-clause-others
returns-else-len-gt1-clause-others c = λ none.
    own_set c.args.list.now.items c.args.b c.take_out-left.new.self (ap (λ (w : BlockEntries). w.shared) c.take_out-left.ensures.entries) none

pub returns-then-left-gt0-clause-free : goal.returns-then-left-gt0-clause-free
returns-then-left-gt0-clause-free c =
    let vs = c.args.list.now.items in
    let b = c.args.b in
    let v = c.take_out-left.new.self in
    let fewer = ap length (ap (λ (w : BlockEntries). w.entries) c.take_out-left.ensures.entries ∙ ap (λ ns. remove ns c.args.offset) (read_at vs b c.index_mut.result.now (own_within vs b c.requires.own) c.index_mut.ensures.value)) in
    let less = length-remove (get_or (blocks_of vs) b []) c.args.offset c.requires.offset in
    let count = count_of vs in
    let lt = own_within vs b c.requires.own in
    let least = least_at (blocks_of vs) b (omega arith) in
    subst (λ bs. least_free (blocks_of vs) ≤ least_free bs) (sym (set_at vs b v)) (least_set (least_free (blocks_of vs)) (blocks_of vs) b v.entries (omega arith) (omega arith))

pub returns-else-len-gt1-clause-free : goal.returns-else-len-gt1-clause-free
returns-else-len-gt1-clause-free c =
    let vs = c.args.list.now.items in
    let b = c.args.b in
    let v = c.take_out-left.new.self in
    let fewer = ap length (ap (λ (w : BlockEntries). w.entries) c.take_out-left.ensures.entries ∙ ap (λ ns. remove ns c.args.offset) (read_at vs b c.index_mut.result.now (own_within vs b c.requires.own) c.index_mut.ensures.value)) in
    let less = length-remove (get_or (blocks_of vs) b []) c.args.offset c.requires.offset in
    let count = count_of vs in
    let lt = own_within vs b c.requires.own in
    let least = least_at (blocks_of vs) b (omega arith) in
    subst (λ bs. least_free (blocks_of vs) ≤ least_free bs) (sym (set_at vs b v)) (least_set (least_free (blocks_of vs)) (blocks_of vs) b v.entries (omega arith) (omega arith))

pub returns-then-len-gt1-clause-free : goal.returns-then-len-gt1-clause-free
returns-then-len-gt1-clause-free c =
    let vs = c.args.list.now.items in
    let b = c.args.b in
    let v = c.take_out-left.new.self in
    let fewer = ap length (ap (λ (w : BlockEntries). w.entries) c.take_out-left.ensures.entries ∙ ap (λ ns. remove ns c.args.offset) (read_at vs b c.index_mut.result.now (own_within vs b c.requires.own) c.index_mut.ensures.value)) in
    let less = length-remove (get_or (blocks_of vs) b []) c.args.offset c.requires.offset in
    let count = count_of vs in
    let lt = own_within vs b c.requires.own in
    let least = least_at (blocks_of vs) b (omega arith) in
    subst (λ bs. least_free (blocks_of vs) ≤ least_free bs) (sym (ap blocks_of c.remove-block.ensures.items ∙ map_remove (λ (w : BlockEntries). w.entries) (set vs b v) b))
    (least_remove (least_free (blocks_of vs)) (blocks_of (set vs b v)) b (subst (λ bs. least_free (blocks_of vs) ≤ least_free bs) (sym (set_at vs b v)) (least_set (least_free (blocks_of vs)) (blocks_of vs) b v.entries (omega arith) (omega arith))))
