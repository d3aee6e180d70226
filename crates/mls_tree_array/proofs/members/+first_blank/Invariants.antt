use Rattle.mls_tree_model.specs.Term.{height}
use Rattle.mls_tree_array.proofs.members.+first_blank.Given as goal

abbrev pub decreases-first_blank : goal.decreases-first_blank
decreases-first_blank l = height l.tree.now.term
