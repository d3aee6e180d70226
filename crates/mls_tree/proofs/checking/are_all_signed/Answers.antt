use Rattle.std.proofs.Common.{arith, sym, ap, ◌∙◌}
use Rattle.mls_checks.specs.Leaf.{is_signed}
use Rattle.mls_tree_model.specs.Keys.{passes}
use Rattle.mls_tree_model.specs.Good.{is_all_signed}
use Rattle.mls_tree.proofs.Passing.{at_first, fails_here, passes_here, at_end}
use Rattle.mls_tree.proofs.checking.are_all_signed.Goals as goal

pub loop-i-init : goal.loop-i-init
loop-i-init g c = at_first (is_signed g.S.Suite.crypto c.args.group_id.now) c.args.height c.args.cells.now.nodes c.requires.shape

pub returns-then-not-branch : goal.returns-then-not-branch
unfolding is_all_signed
returns-then-not-branch g c =
    sym (sym c.loop-i.invariant ∙ fails_here (is_signed g.S.Suite.crypto c.args.group_id.now) c.args.height c.args.cells.now.nodes c.requires.shape c.loop-i.i (omega arith) (sym (c.in_ok-is_signed_or_blank.ensures ∙ ap (passes (is_signed g.S.Suite.crypto c.args.group_id.now) c.loop-i.i) c.leaf.ensures) ∙ c.if-not-branch.true))

pub loop-i-preserved : goal.loop-i-preserved
loop-i-preserved g c =
    passes_here (is_signed g.S.Suite.crypto c.args.group_id.now) c.args.height c.args.cells.now.nodes c.requires.shape c.loop-i.i (omega arith) (sym (c.in_ok-is_signed_or_blank.ensures ∙ ap (passes (is_signed g.S.Suite.crypto c.args.group_id.now) c.loop-i.i) c.leaf.ensures) ∙ c.if-not-branch.false) ∙ c.loop-i.invariant

pub returns : goal.returns
unfolding is_all_signed
returns g c = sym (sym c.loop-i.invariant ∙ at_end (is_signed g.S.Suite.crypto c.args.group_id.now) c.args.height c.args.cells.now.nodes c.requires.shape c.loop-i.i (omega arith))
