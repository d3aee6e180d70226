use Rattle.std.proofs.Common.{◌∙◌, length, refl, sym, arith}
use Rattle.mls_cli_place.proofs.Repeating.{at_first, found_at, new_before}
use Rattle.mls_cli_place.proofs.repeats.first_repeated.Goals as goal

pub returns-then-branch : goal.returns-then-branch
returns-then-branch c = new_before c.args.kind c.args.nodes.now (length c.args.nodes.now) (sym c.in_ok-are_distinct_to.ensures ∙ c.if-branch.true)

pub loop-high-init : goal.loop-high-init
loop-high-init c = at_first c.args.kind c.args.nodes.now (length c.args.nodes.now) refl (sym c.in_ok-are_distinct_to.ensures ∙ c.if-branch.false)

pub returns : goal.returns
returns c = found_at c.args.kind c.args.nodes.now c.loop-high.low c.loop-high.high c.loop-high.invariant (omega (arith, c.loop-high-test.false, c.loop-high.invariant.order))
