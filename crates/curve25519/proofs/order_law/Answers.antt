use Rattle.curve25519.proofs.Curve25519.{base_on}
use Rattle.curve25519.proofs.Order.{order_of_base}
use Rattle.curve25519.proofs.X25519.{not_origin}
use Rattle.curve25519.proofs.order_law.Goals as goal

pub returns-clause-on : goal.returns-clause-on
returns-clause-on c = base_on

pub returns-clause-moves : goal.returns-clause-moves
returns-clause-moves c = not_origin

pub returns-clause-turns : goal.returns-clause-turns
returns-clause-turns c = order_of_base
