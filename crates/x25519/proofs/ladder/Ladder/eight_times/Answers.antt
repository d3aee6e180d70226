use Rattle.x25519.proofs.Steps.{four_steps}
use Rattle.x25519.proofs.ladder.Ladder.eight_times.Goals as goal

pub returns : goal.returns
returns c =
    four_steps c.args.u.now _ _ _ _ _ c.start.ensures c.step-once.ensures c.step-twice.ensures c.step-four_times.ensures c.step.ensures
