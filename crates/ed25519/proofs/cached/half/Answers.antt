use Rattle.std.proofs.Common.{ap₂, ◌∙◌}
use Rattle.curve25519.specs.Field25519.{field}
use Rattle.ed25519.proofs.Represented.{halves}
use Rattle.ed25519.proofs.cached.half.Goals as goal

pub returns : goal.returns
returns c = ap₂ field.add c.from_words.ensures c.from_words.ensures ∙ halves
