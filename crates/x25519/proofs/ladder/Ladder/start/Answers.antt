use Rattle.x25519.proofs.Steps.{first}
use Rattle.x25519.proofs.ladder.Ladder.start.Goals as goal

pub returns : goal.returns
returns c = first _ _ _ _ _ 0 c.small.ensures c.small-2.ensures c.copy.ensures c.small-3.ensures
