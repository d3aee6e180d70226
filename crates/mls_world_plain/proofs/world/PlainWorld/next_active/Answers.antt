use Rattle.std.proofs.Common.{◌∙◌, sym, arith}
use Rattle.mls_world_plain.proofs.ActiveMembers.{finds, none_left, passes}
use Rattle.mls_world_plain.proofs.world.PlainWorld.next_active.Goals as goal

pub returns-then-is_active-clause-first : goal.returns-then-is_active-clause-first
returns-then-is_active-clause-first g c =
    c.loop-number.invariant ∙ finds c.args.self.now c.loop-number.number (sym c.is_active.ensures ∙ c.if-is_active.true)

pub loop-number-preserved : goal.loop-number-preserved
loop-number-preserved g c =
    c.loop-number.invariant ∙ passes c.args.self.now c.loop-number.number (sym c.is_active.ensures ∙ c.if-is_active.false)

pub returns-clause-first : goal.returns-clause-first
returns-clause-first g c =
    c.loop-number.invariant ∙ none_left c.args.self.now c.loop-number.number (omega (arith, c.member_count-number-end.ensures))
