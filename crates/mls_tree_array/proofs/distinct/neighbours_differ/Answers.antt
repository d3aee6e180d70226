use Rattle.mls_tree_array.proofs.Sorts.{repeats_at}
use Rattle.mls_tree_array.proofs.distinct.neighbours_differ.Goals as goal

pub returns-then-eq : goal.returns-then-eq
returns-then-eq c = repeats_at _ _ _ _ c.loop-k.auto.k c.loop-k-test.true c.eq.ensures c.if-eq.true
