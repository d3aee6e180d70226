use Rattle.std.proofs.Common.{◌≡◌, ◌==◌, ◌||◌, drop}
use Rattle.std.specs.List.{list_all}
use Rattle.mls_tree_model.specs.Sets.{has}
use Rattle.mls_tree_array.specs.Witnesses.{numbers_in}
use Rattle.mls_tree_array.proofs.witnesses.others_among.Given as goal

abbrev pub invariant-loop-x : goal.invariant-loop-x
invariant-loop-x l =
    list_all (λ x. (x == l.node) || has (numbers_in l.first l.end l.leaves) x) (drop l.x-index l.nodes)
    ≡ list_all (λ x. (x == l.node) || has (numbers_in l.first l.end l.leaves) x) l.nodes
