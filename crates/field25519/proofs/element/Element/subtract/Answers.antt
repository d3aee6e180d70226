use Rattle.field25519.proofs.Meaning.{difference_is}
use Rattle.field25519.proofs.element.Element.subtract.Goals as goal

pub returns : goal.returns
returns c = difference_is _ _ _ _ _ c.subtract.ensures.same_number c.self.view_is c.other.view_is
