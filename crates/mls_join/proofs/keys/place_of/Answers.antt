use Rattle.std.proofs.Common.{sym, ap, ◌∙◌, arith}
use Rattle.mls_tree.specs.Tree.{term}
use Rattle.mls_join.specs.Stages.{is_at}
use Rattle.mls_join.proofs.Places.{found_first, is_here, is_later, is_none}
use Rattle.mls_join.proofs.keys.place_of.Goals as goal

pub loop-i-init : goal.loop-i-init
loop-i-init c = found_first c.args.leaf.now (term c.args.tree.now)

pub loop-i-preserved : goal.loop-i-preserved
loop-i-preserved c =
    sym (is_later c.args.leaf.now (term c.args.tree.now) c.loop-i.i (omega arith) (ap (is_at c.args.leaf.now) (sym c.leaf.ensures) ∙ sym c.is_leaf.ensures ∙ c.if-is_leaf.false)) ∙ c.loop-i.invariant

pub returns-then-is_leaf : goal.returns-then-is_leaf
returns-then-is_leaf c =
    sym (is_here c.args.leaf.now (term c.args.tree.now) c.loop-i.i (omega arith) (ap (is_at c.args.leaf.now) (sym c.leaf.ensures) ∙ sym c.is_leaf.ensures ∙ c.if-is_leaf.true)) ∙ c.loop-i.invariant

pub returns : goal.returns
returns c = sym (is_none c.args.leaf.now (term c.args.tree.now) c.loop-i.i (omega arith)) ∙ c.loop-i.invariant
