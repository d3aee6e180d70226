use Rattle.std.proofs.Common.{◌≡◌, ◌+◌, ◌-◌, ◌≤◌, ◌++◌, replicate, None, vec_len, vec_capacity}
use Rattle.mls_tree_array.proofs.order.pad.Given as goal

abbrev pub invariant-loop : goal.invariant-loop
invariant-loop l =
    (l.nodes.items ≡ l.fn.nodes.items ++ replicate l.counter None) × (vec_len l.nodes + (l.missing - l.counter) ≤ vec_capacity l.nodes)
