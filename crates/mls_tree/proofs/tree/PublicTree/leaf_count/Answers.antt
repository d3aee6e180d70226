use Rattle.std.proofs.Common.{ap, ◌∙◌, sym, arith}
use Rattle.std.proofs.lemmas.Nat.{one_shl}
use Rattle.mls_tree_model.specs.Term.{width}
use Rattle.mls_tree_model.proofs.ArrayLaws.{width-term_of}
use Rattle.mls_tree.specs.Tree.{term}
use Rattle.mls_tree.proofs.tree.PublicTree.leaf_count.Goals as goal

pub returns : goal.returns
returns c =
    let low = c.self.invariant.1 in
    one_shl c.self.inside.height 32 (omega arith)
    ∙ sym (width-term_of c.self.inside.height c.self.inside.cells.nodes)
    ∙ ap (λ t. width (term t)) c.self.view_is
