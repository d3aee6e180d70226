use Rattle.std.proofs.Common.{◌∙◌}
use Rattle.mls_candidate.proofs.leaf.made_capabilities.Goals as goal

pub returns-in-Ok : goal.returns-in-Ok
returns-in-Ok g c = c.in-Ok.ensures.1 ∙ c.in_ok-lists.ensures
