use Rattle.field25519.proofs.Meaning.{negated_is}
use Rattle.field25519.proofs.element.Element.negate.Goals as goal

pub returns : goal.returns
returns c = negated_is _ _ _ _ _ _ c.small.ensures c.small-2.ensures c.subtract-less.ensures c.loose.ensures c.multiply.ensures
