use Rattle.std.proofs.Common.{◌∙◌}
use Rattle.mls_leaf.proofs.CapabilityLaws.{same_spelled}
use Rattle.mls_leaf.proofs.capabilities.SpelledCapabilitiesPartialEq.eq.Goals as goal

pub returns : goal.returns
returns c = c.eq.ensures ∙ same_spelled c.self.inside.bytes c.other.inside.bytes c.args.self.now c.args.other.now c.self.view_is c.other.view_is c.self.invariant c.other.invariant
