use Rattle.field25519.proofs.Bits.{xor_same, same_of_xor}
use Rattle.field25519.proofs.words.difference.Goals as goal

pub returns-clause-same : goal.returns-clause-same
returns-clause-same c e = xor_same c.args.x c.args.y e

pub returns-clause-differ : goal.returns-clause-differ
returns-clause-differ c e = same_of_xor c.args.x c.args.y e
