use Rattle.std.proofs.Common.{ap, ◌∙◌}
use Rattle.mls_tree_array.proofs.SubtreeLaws.{as_subtree}
use Rattle.mls_tree.specs.Tree.{term}
use Rattle.mls_tree.proofs.tree.PublicTree.subtree.Goals as goal

pub returns : goal.returns
returns c = c.of.ensures ∙ ap (λ t. as_subtree 0 (term t)) c.self.view_is
