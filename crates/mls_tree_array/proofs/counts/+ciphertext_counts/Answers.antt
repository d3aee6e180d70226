use Rattle.std.proofs.Common.{sym, append-nil, append_assoc}
use Rattle.mls_tree_model.proofs.Equations.{ciphertext_counts_leaf}
use Rattle.mls_tree_array.proofs.StepLaws.{counts_step}
use Rattle.mls_tree_array.proofs.counts.+ciphertext_counts.Goals as goal

pub returns-in-None : goal.returns-in-None
returns-in-None t c = rw (c.in-None.ensures.1, ciphertext_counts_leaf) (sym (append-nil _))

pub returns-in_ok-ciphertext_counts-in-Some : goal.returns-in_ok-ciphertext_counts-in-Some
returns-in_ok-ciphertext_counts-in-Some t c =
    rw (counts_step c.args.tree.now c.args.leaf c.in-Some.step.side _ c.in-Some.step.other c.in-Some.ensures c.args.added.now) (rw (c.in_ok-ciphertext_counts-in-Some.ensures, append_assoc) at c.push_count.ensures)
