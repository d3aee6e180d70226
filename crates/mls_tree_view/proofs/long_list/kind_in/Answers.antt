use Rattle.std.proofs.Common.{length, get_or, ap, arith}
use Rattle.mls_tree_view.proofs.Walks.{long_place, short_place}
use Rattle.mls_tree_view.proofs.long_list.kind_in.Goals as goal

pub returns-in_default : goal.returns-in_default
returns-in_default c =
    let below = c.in_default.len_below in
    let same = ap length c.bytes.ensures.same in
    short_place c.args.place.now (omega (arith, below, same))

pub returns-in-len2-up : goal.returns-in-len2-up
returns-in-len2-up c =
    let above = c.in-len2-up.len_at_least in
    let same = ap length c.bytes.ensures.same in
    long_place c.args.place.now _ c.kind_of_number.result (omega (arith, above, same)) (ap (λ b. get_or b 1 0) c.bytes.ensures.same) c.kind_of_number.ensures
