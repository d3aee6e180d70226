use Rattle.std.proofs.Common.{◌≡◌, ◌-◌}
use Rattle.std.specs.Option.{option_map}
use Rattle.mls_tree_model.specs.Term.{width, leaf_of}
use Rattle.mls_tree.specs.Tree.{term}
use Rattle.mls_model.specs.Join.{place_of}
use Rattle.mls_join.proofs.Places.{first_from, at}
use Rattle.mls_join.proofs.keys.place_of.Given as goal

abbrev pub invariant-loop-i : goal.invariant-loop-i
invariant-loop-i l =
    first_from (at l.leaf (leaf_of (term l.tree))) l.i (width (term l.tree) - l.i) ≡ option_map (λ x. x.0) (place_of l.leaf (term l.tree))
