use Rattle.field25519.proofs.Meaning.{scaled_is}
use Rattle.field25519.proofs.element.Loose.scale.Goals as goal

pub returns : goal.returns
returns c = scaled_is _ _ _ _ c.scale.ensures.same_number c.self.view_is
