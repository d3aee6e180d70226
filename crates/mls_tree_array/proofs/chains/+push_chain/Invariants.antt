use Rattle.mls_tree_model.specs.Term.{height}
use Rattle.mls_tree_array.proofs.chains.+push_chain.Given as goal

abbrev pub decreases-push_chain : goal.decreases-push_chain
decreases-push_chain l = height l.tree.now.term
