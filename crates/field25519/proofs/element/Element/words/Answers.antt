use Rattle.std.proofs.Common.{◌∙◌}
use Rattle.field25519.proofs.Meaning.{least_of}
use Rattle.field25519.proofs.element.Element.words.Goals as goal

pub returns : goal.returns
returns c = c.to_words.ensures.same_number ∙ c.reduce.ensures.least ∙ least_of _ _ c.self.view_is
