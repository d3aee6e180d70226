use Rattle.std.proofs.Common.{ap, ◌∙◌}
use Rattle.field25519.specs.Scalars.{decode_scalar}
use Rattle.ed25519.proofs.signing.scalar_of.Goals as goal

pub returns : goal.returns
returns c = c.from_scalar.ensures ∙ ap decode_scalar (c.copy_half.ensures ∙ c.split_at.ensures.front)
