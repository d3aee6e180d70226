use Rattle.field25519.specs.Bytes.{joined}
use Rattle.ed25519.proofs.Columns.{digit_of_bits}
use Rattle.ed25519.proofs.base_multiple.digit_at.Goals as goal

pub returns-clause-is : goal.returns-clause-is
returns-clause-is c =
    digit_of_bits (joined c.args.scalar) c.args.at _ _ _ _ c.bit_at-first.ensures.bit c.bit_at-second.ensures.bit c.bit_at-third.ensures.bit c.bit_at-fourth.ensures.bit
