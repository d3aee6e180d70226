use Rattle.std.proofs.Common.{◌≡◌, ◌≤◌, length, take}
use Rattle.mls_tree_model.specs.Arrays.{without_last_blanks}
use Rattle.mls_tree_array.proofs.order.sent_len.Given as goal

abbrev pub invariant-loop-len : goal.invariant-loop-len
invariant-loop-len l = (l.len ≤ length l.cells.nodes) × (without_last_blanks (take l.len l.cells.nodes) ≡ without_last_blanks l.cells.nodes)

abbrev pub decreases-loop-len : goal.decreases-loop-len
decreases-loop-len l = l.len
