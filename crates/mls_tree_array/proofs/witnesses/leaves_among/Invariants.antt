use Rattle.std.proofs.Common.{◌≡◌, ◌+◌, ◌-◌, ◌*◌, ◌||◌, ◌&&◌, not, nat_lt, drop}
use Rattle.std.specs.Prelude.{nat_le}
use Rattle.std.specs.List.{list_all}
use Rattle.mls_tree_model.specs.Sets.{has}
use Rattle.mls_tree_array.specs.Witnesses.{others}
use Rattle.mls_tree_array.proofs.witnesses.leaves_among.Given as goal

abbrev pub invariant-loop-leaf : goal.invariant-loop-leaf
invariant-loop-leaf l =
    list_all (λ u. not (nat_le l.first u && nat_lt u (l.first + (l.end - l.first))) || has (others l.node l.nodes) (2 * u)) (drop l.leaf-index l.leaves)
    ≡ list_all (λ u. not (nat_le l.first u && nat_lt u (l.first + (l.end - l.first))) || has (others l.node l.nodes) (2 * u)) l.leaves
