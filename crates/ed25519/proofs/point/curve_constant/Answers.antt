use Rattle.std.proofs.Common.{◌∙◌}
use Rattle.ed25519.proofs.Represented.{constant}
use Rattle.ed25519.proofs.point.curve_constant.Goals as goal

pub returns : goal.returns
returns c = c.from_words.ensures ∙ constant
