use Rattle.curve25519.proofs.Curve25519.{curve}
use Rattle.curve25519.proofs.Group.{stays, associates, commutes_here, with_origin}
use Rattle.curve25519.proofs.Ladder.{cancels_point}
use Rattle.curve25519.proofs.group_law.Goals as goal

pub returns-clause-closed : goal.returns-clause-closed
returns-clause-closed c = stays curve

pub returns-clause-associative : goal.returns-clause-associative
returns-clause-associative c = associates curve

pub returns-clause-commutative : goal.returns-clause-commutative
returns-clause-commutative c = commutes_here curve

pub returns-clause-neutral : goal.returns-clause-neutral
returns-clause-neutral c = with_origin curve

pub returns-clause-opposite : goal.returns-clause-opposite
returns-clause-opposite c = cancels_point curve
