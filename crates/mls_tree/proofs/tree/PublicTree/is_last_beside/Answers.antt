use Rattle.std.proofs.Common.{arith, ap, ◌∙◌, sym}
use Rattle.std.proofs.lemmas.Nat.{one_shl}
use Rattle.mls_tree_model.specs.Term.{width}
use Rattle.mls_tree_model.proofs.ArrayLaws.{width-term_of}
use Rattle.mls_tree.specs.Tree.{term}
use Rattle.mls_tree.proofs.Removing.{member_low, end_low, last_beside, last_not_beside}
use Rattle.mls_tree.proofs.tree.PublicTree.is_last_beside.Goals as goal

pub overflow_add-i : goal.overflow_add-i
overflow_add-i c =
    let low = member_low c.self.inside.height c.self.inside.cells.nodes _ (ap term c.self.view_is) c.self.invariant.1 c.args.i c.requires.member in
    omega arith

pub overflow_mul-result : goal.overflow_mul-result
overflow_mul-result c =
    let low = end_low c.self.inside.height c.self.inside.cells.nodes _ (ap term c.self.view_is) c.self.invariant.1 _ c.requires.end in
    omega arith

pub returns-then-i-end : goal.returns-then-i-end
returns-then-i-end c =
    let tall = c.self.invariant.1 in
    let wide =
    one_shl c.self.inside.height 32 (omega arith)
    ∙ sym (width-term_of c.self.inside.height c.self.inside.cells.nodes)
    ∙ ap (λ t. width (term t)) c.self.view_is in
    last_beside c.args.i c.args.end _ (term c.args.self.now) wide c.if-i-end.true

pub returns-else-i-end : goal.returns-else-i-end
returns-else-i-end c = last_not_beside c.args.i c.args.end (term c.args.self.now) c.if-i-end.false
