use Rattle.std.proofs.Common.{is_some, sym, ◌∙◌, ap, eq-eqb, ne_eqb}
use Rattle.mls_tree.proofs.Pathing.{lost_leaf, found_leaf, no_member, wrong_length, right_length}
use Rattle.mls_tree.proofs.tree.PublicTree.require_path.Goals as goal

pub returns-then-is_none : goal.returns-then-is_none
returns-then-is_none c = no_member _ _ _ (sym c.leaf.ensures ∙ lost_leaf _ _ c.is_none.ensures c.if-is_none.true)

pub returns-then-count-path_length : goal.returns-then-count-path_length
returns-then-count-path_length c =
    wrong_length _ _ _ (ap is_some (sym c.leaf.ensures) ∙ found_leaf _ _ c.is_none.ensures c.if-is_none.false)
    (ne_eqb _ _ (λ e. c.if-count-path_length.true (e ∙ sym c.path_length.ensures)))

pub returns : goal.returns
returns c =
    right_length _ _ _ (ap is_some (sym c.leaf.ensures) ∙ found_leaf _ _ c.is_none.ensures c.if-is_none.false)
    (eq-eqb _ _ (c.if-count-path_length.false ∙ c.path_length.ensures))
