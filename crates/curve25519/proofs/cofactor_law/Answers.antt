use Rattle.curve25519.proofs.X25519.{cofactor_law, low_order_law}
use Rattle.curve25519.proofs.cofactor_law.Goals as goal

pub returns-clause-eight_times : goal.returns-clause-eight_times
returns-clause-eight_times c = cofactor_law

pub returns-clause-low_order : goal.returns-clause-low_order
returns-clause-low_order c = low_order_law
