use Rattle.std.proofs.Common.{◌^◌, arith}
use Rattle.mls_tree_array.proofs.Targets.{rising_length}
use Rattle.mls_tree_array.proofs.counts.count_others.Goals as goal

pub returns-clause-low : goal.returns-clause-low
returns-clause-low c rise =
    let long = rising_length (2 ^ 32) 0 c.args.leaves.now (λ k lt. omega (arith, c.type_inv.leaves k)) rise (omega arith) in
    omega arith
