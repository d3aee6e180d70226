use Rattle.std.proofs.Common.{arith}
use Rattle.std.proofs.lemmas.Nat.{one_shl, pow_pos}
use Rattle.mls_tree_array.proofs.SubtreeLaws.{low_height}
use Rattle.mls_tree_array.proofs.places.root_of.Goals as goal

pub overflow_shl-result : goal.overflow_shl-result
overflow_shl-result c = low_height c.args.height c.args.first c.requires

pub overflow_sub-result : goal.overflow_sub-result
overflow_sub-result c =
    let low = low_height c.args.height c.args.first c.requires in
    let power = one_shl c.args.height 32 low in
    let some = pow_pos c.args.height in
    omega arith

pub overflow_add-result : goal.overflow_add-result
overflow_add-result c =
    let low = low_height c.args.height c.args.first c.requires in
    let power = one_shl c.args.height 32 low in
    let some = pow_pos c.args.height in
    omega arith

pub returns : goal.returns
returns c =
    let low = low_height c.args.height c.args.first c.requires in
    let power = one_shl c.args.height 32 low in
    let some = pow_pos c.args.height in
    omega arith
