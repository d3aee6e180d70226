use Rattle.std.proofs.Common.{◌+◌, ◌-◌, ap, arith}
use Rattle.std.proofs.lemmas.Nat.{one_shl}
use Rattle.mls_tree_array.proofs.SubtreeLaws.{low_height, two_halves}
use Rattle.mls_tree_array.proofs.places.second_first.Goals as goal

pub overflow_shl-result : goal.overflow_shl-result
overflow_shl-result c =
    let low = low_height c.args.height c.args.first c.requires.fits in
    omega arith

pub overflow_add-result : goal.overflow_add-result
overflow_add-result c =
    let low = low_height c.args.height c.args.first c.requires.fits in
    let power = one_shl (c.args.height - 1) 32 (omega arith) in
    let halves = two_halves c.args.height c.requires.above_leaf in
    omega arith

pub returns : goal.returns
returns c =
    let low = low_height c.args.height c.args.first c.requires.fits in
    ap (λ k. c.args.first + k) (one_shl (c.args.height - 1) 32 (omega arith))
