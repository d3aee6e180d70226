use Rattle.curve25519.proofs.Curve25519.{constant, root}
use Rattle.curve25519.proofs.constant_law.Goals as goal

pub returns-clause-constant : goal.returns-clause-constant
returns-clause-constant c = constant

pub returns-clause-root : goal.returns-clause-root
returns-clause-root c = root
