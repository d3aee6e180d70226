use Rattle.std.proofs.Common.{◌∙◌}
use Rattle.ed25519.proofs.Represented.{root_constant}
use Rattle.ed25519.proofs.decoding.root_of_minus_one.Goals as goal

pub returns : goal.returns
returns c = c.from_words.ensures ∙ root_constant
