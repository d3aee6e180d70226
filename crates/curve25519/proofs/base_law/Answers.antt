use Rattle.curve25519.proofs.Curve25519.{base_height, base_even}
use Rattle.curve25519.proofs.X25519.{base_coordinate}
use Rattle.curve25519.proofs.base_law.Goals as goal

pub returns-clause-height : goal.returns-clause-height
returns-clause-height c = base_height

pub returns-clause-even : goal.returns-clause-even
returns-clause-even c = base_even

pub returns-clause-coordinate : goal.returns-clause-coordinate
returns-clause-coordinate c = base_coordinate
