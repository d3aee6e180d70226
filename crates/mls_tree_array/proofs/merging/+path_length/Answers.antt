use Rattle.std.proofs.Common.{sym}
use Rattle.mls_tree_model.proofs.Equations.{path_length_leaf}
use Rattle.mls_tree_array.proofs.Merged.{bit_counts}
use Rattle.mls_tree_array.proofs.StepLaws.{length_step}
use Rattle.mls_tree_array.proofs.merging.+path_length.Goals as goal

pub returns-in-None-clause-value : goal.returns-in-None-clause-value
returns-in-None-clause-value t c = rw c.in-None.ensures.1 (sym (path_length_leaf _ _ _))

pub returns-in-Some-clause-value : goal.returns-in-Some-clause-value
returns-in-Some-clause-value t c =
    rw (length_step c.args.tree.now c.args.leaf c.in-Some.step.side _ c.in-Some.step.other c.in-Some.ensures, ← c.path_length.ensures.value, ← c.is_reached.ensures c.in-Some.step.other.first, c.from.ensures) (bit_counts _ _)
