use Rattle.std.proofs.Common.{◌≡◌, ap, ◌∙◌, sym, subst}
use Rattle.std.specs.Prelude.{IfOk}
use Rattle.mls_tree_model.specs.Arrays.{to_nodes}
use Rattle.mls_tree_array.proofs.OrderLaws.{to_nodes-standing}
use Rattle.mls_tree.specs.Tree.{term}
use Rattle.mls_tree.proofs.tree.PublicTree.to_nodes.Goals as goal

pub returns : goal.returns
returns c =
    subst (λ xs. IfOk c.to_nodes.result (λ v. v.items ≡ xs))
    (sym (to_nodes-standing c.self.inside.height c.self.inside.cells.nodes c.self.invariant.0) ∙ ap (λ t. to_nodes (term t)) c.self.view_is)
    c.to_nodes.ensures
