use Rattle.field25519.proofs.Meaning.{product_is}
use Rattle.field25519.proofs.element.Loose.multiply.Goals as goal

pub returns : goal.returns
returns c = product_is _ _ _ _ _ c.multiply.ensures.same_number c.self.view_is c.other.view_is
