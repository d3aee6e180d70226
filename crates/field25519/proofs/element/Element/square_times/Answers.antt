use Rattle.std.proofs.Common.{sym, ◌∙◌}
use Rattle.curve25519.proofs.Field25519.{raise-one}
use Rattle.field25519.proofs.Meaning.{once_more}
use Rattle.field25519.proofs.element.Element.square_times.Goals as goal

pub loop-i-init : goal.loop-i-init
loop-i-init c = c.copy-power.ensures ∙ sym (raise-one _)

pub loop-i-preserved : goal.loop-i-preserved
loop-i-preserved c = once_more _ _ _ c.loop-i.i c.loop-i.invariant c.square-power.ensures
