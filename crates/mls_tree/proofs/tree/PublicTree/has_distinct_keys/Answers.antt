use Rattle.std.proofs.Common.{◌∙◌, ap}
use Rattle.mls_tree_model.specs.Good.{has_distinct_keys}
use Rattle.mls_tree.specs.Tree.{term}
use Rattle.mls_tree.proofs.tree.PublicTree.has_distinct_keys.Goals as goal

pub returns : goal.returns
returns c =
    c.has_distinct_keys.ensures c.self.inside.height c.self.inside.cells.nodes c.self.invariant.0 c.self.invariant.4
    ∙ ap (λ t. has_distinct_keys (term t)) c.self.view_is
