use Rattle.std.proofs.Common.{◌∙◌, ap}
use Rattle.mls_leaf.specs.Capabilities.{capabilities_in}
use Rattle.mls_leaf.proofs.CapabilityLaws.{read_in}
use Rattle.mls_leaf.proofs.capabilities.SpelledCapabilities.to_lists.Goals as goal

pub returns-in-Ok : goal.returns-in-Ok
returns-in-Ok c = read_in c.in-Ok.lists c.new-reader.result c.read.new.reader c.in-Ok.ensures ∙ ap capabilities_in (c.new-reader.ensures ∙ c.as_slice.ensures) ∙ c.self.view_is
