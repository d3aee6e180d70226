use Rattle.std.proofs.Common.{sym, append-nil, append_assoc}
use Rattle.mls_tree_model.proofs.Equations.{filtered_path_leaf}
use Rattle.mls_tree_array.proofs.StepLaws.{filtered_step}
use Rattle.mls_tree_array.proofs.path.+filtered_path.Goals as goal

pub returns-in-None : goal.returns-in-None
returns-in-None t c = rw (c.in-None.ensures.1, filtered_path_leaf) (sym (append-nil _))

pub returns-in_ok-filtered_path-in-Some : goal.returns-in_ok-filtered_path-in-Some
returns-in_ok-filtered_path-in-Some t c =
    rw (filtered_step c.args.tree.now c.args.leaf c.in-Some.step.side _ c.in-Some.step.other c.in-Some.ensures)
    (rw (c.in_ok-filtered_path-in-Some.ensures, append_assoc, c.is_reached.ensures c.in-Some.step.other.first, c.number.ensures) at c.push_if.ensures)
