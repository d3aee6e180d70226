use Rattle.field25519.proofs.Meaning.{sum_is}
use Rattle.field25519.proofs.element.Element.add.Goals as goal

pub returns : goal.returns
returns c = sum_is _ _ _ _ _ c.add.ensures.same_number c.self.view_is c.other.view_is
