use Rattle.std.proofs.Common.{ap, ◌∙◌}
use Rattle.mls_tree.specs.HeldKeys.{has_client}
use Rattle.mls_tree.specs.Tree.{term}
use Rattle.mls_tree.proofs.tree.PublicTree.has_client.Goals as goal

pub returns : goal.returns
returns c =
    c.has_client.ensures c.self.inside.height c.self.invariant.0 c.self.invariant.4
    ∙ ap (λ t. has_client (term t) c.args.key.now) c.self.view_is
