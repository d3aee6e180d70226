use Rattle.std.proofs.Common.{ap}
use Rattle.curve25519.specs.Field25519.{residue}
use Rattle.field25519.proofs.element.Element.from_words.Goals as goal

pub returns : goal.returns
returns c = ap residue c.from_words.ensures.same_number
