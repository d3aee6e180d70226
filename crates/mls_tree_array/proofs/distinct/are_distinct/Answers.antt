use Rattle.std.proofs.Common.{subst}
use Rattle.std.specs.Bool.{MatchBool}
use Rattle.mls_tree_array.specs.DistinctStrings.{Differ, Repeats}
use Rattle.mls_tree_array.proofs.Sorts.{answer_of}
use Rattle.mls_tree_array.proofs.distinct.are_distinct.Goals as goal

pub returns : goal.returns
returns c =
    answer_of _ _ _ c.sort_unstable.ensures.permutation c.sort_unstable.ensures.sorted
    (subst (λ ys. MatchBool c.neighbours_differ.result (Differ ys) (Repeats ys)) c.deref.ensures.value c.neighbours_differ.ensures)
