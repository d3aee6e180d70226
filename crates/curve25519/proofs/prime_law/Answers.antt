use Rattle.curve25519.proofs.FieldPrime.{p_field}
use Rattle.curve25519.proofs.OrderPrime.{p_order}
use Rattle.curve25519.proofs.prime_law.Goals as goal

pub returns-clause-modulus : goal.returns-clause-modulus
returns-clause-modulus c = p_field.prime.inverse

pub returns-clause-order : goal.returns-clause-order
returns-clause-order c = p_order.prime.inverse
