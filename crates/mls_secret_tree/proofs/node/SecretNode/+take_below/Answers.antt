use Rattle.std.proofs.Common.{◌-◌, sym, ◌∙◌, ap}
use Rattle.mls_secret_tree.specs.Held.{take_below}
use Rattle.mls_treemath.specs.Paths.{leaf_path}
use Rattle.mls_secret_tree.proofs.Nodes.{sees, answers_as, way_of_leaf, way_down, below_whole, below_ratchet, below_end, below_left, below_right}
use Rattle.mls_secret_tree.proofs.Refusals.{refuses_as, same_number}
use Rattle.mls_secret_tree.proofs.node.SecretNode.+take_below.Goals as goal

pub returns-in-Secret-clause-answer : goal.returns-in-Secret-clause-answer
returns-in-Secret-clause-answer t c = answers_as _ _ _ (below_whole _ _ _ _ (sees c.self.view_is c.in-Secret.is)) c.take_whole.ensures.answer

pub returns-in-Secret-clause-refused : goal.returns-in-Secret-clause-refused
returns-in-Secret-clause-refused t c = refuses_as _ _ _ (below_whole _ _ _ _ (sees c.self.view_is c.in-Secret.is)) c.take_whole.ensures.refused

pub returns-in-Ratchet-clause-answer : goal.returns-in-Ratchet-clause-answer
returns-in-Ratchet-clause-answer t c = answers_as _ _ _ (below_ratchet _ _ _ _ (sees c.self.view_is c.in-Ratchet.is)) c.take_key.ensures.answer

pub returns-in-Ratchet-clause-refused : goal.returns-in-Ratchet-clause-refused
returns-in-Ratchet-clause-refused t c = refuses_as _ _ _ (below_ratchet _ _ _ _ (sees c.self.view_is c.in-Ratchet.is)) c.take_key.ensures.refused

pub returns-then-level-eq0-clause-answer : goal.returns-then-level-eq0-clause-answer
returns-then-level-eq0-clause-answer t c = λ memory. below_end _ _ _ _ _ (sees c.self.view_is c.in-Parted.is) (way_of_leaf _ _ c.if-level-eq0.true)

pub returns-then-level-eq0-clause-refused : goal.returns-then-level-eq0-clause-refused
returns-then-level-eq0-clause-refused t c =
    λ n is. same_number 114 n _ (below_end _ _ _ _ _ (sees c.self.view_is c.in-Parted.is) (way_of_leaf _ _ c.if-level-eq0.true)) is

pub returns-then-is_right-clause-answer : goal.returns-then-is_right-clause-answer
returns-then-is_right-clause-answer t c =
    answers_as _ _ _
    (below_right _ _ _ _ _ _ (sees c.self.view_is c.in-Parted.is) (way_down _ _ _ c.if-level-eq0.false c.if-is_right.ensures)
    ∙ ap (λ h. take_below h (leaf_path (c.args.level - 1) c.args.leaf) c.args.generation) (sym c.deref.ensures))
    c.take_below.ensures.answer

pub returns-then-is_right-clause-refused : goal.returns-then-is_right-clause-refused
returns-then-is_right-clause-refused t c =
    refuses_as _ _ _
    (below_right _ _ _ _ _ _ (sees c.self.view_is c.in-Parted.is) (way_down _ _ _ c.if-level-eq0.false c.if-is_right.ensures)
    ∙ ap (λ h. take_below h (leaf_path (c.args.level - 1) c.args.leaf) c.args.generation) (sym c.deref.ensures))
    c.take_below.ensures.refused

pub returns-else-is_right-clause-answer : goal.returns-else-is_right-clause-answer
returns-else-is_right-clause-answer t c =
    answers_as _ _ _
    (below_left _ _ _ _ _ _ (sees c.self.view_is c.in-Parted.is) (way_down _ _ _ c.if-level-eq0.false c.if-is_right.ensures)
    ∙ ap (λ h. take_below h (leaf_path (c.args.level - 1) c.args.leaf) c.args.generation) (sym c.deref-else-is_right.ensures))
    c.take_below-else-is_right.ensures.answer

pub returns-else-is_right-clause-refused : goal.returns-else-is_right-clause-refused
returns-else-is_right-clause-refused t c =
    refuses_as _ _ _
    (below_left _ _ _ _ _ _ (sees c.self.view_is c.in-Parted.is) (way_down _ _ _ c.if-level-eq0.false c.if-is_right.ensures)
    ∙ ap (λ h. take_below h (leaf_path (c.args.level - 1) c.args.leaf) c.args.generation) (sym c.deref-else-is_right.ensures))
    c.take_below-else-is_right.ensures.refused
