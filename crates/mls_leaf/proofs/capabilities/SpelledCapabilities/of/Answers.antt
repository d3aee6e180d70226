use Rattle.std.proofs.Common.{◌∙◌}
use Rattle.mls_leaf.proofs.CapabilityLaws.{copy_is, copy_spells}
use Rattle.mls_leaf.proofs.capabilities.SpelledCapabilities.of.Goals as goal

pub invariant_of-result : goal.invariant_of-result
invariant_of-result c = copy_spells c.args.lists.now c.in_ok-spelled.spelled.items c.in_ok-bytes.bytes (c.in_ok-bytes.ensures.bytes ∙ c.deref.ensures.value) c.in_ok-spelled.ensures

pub returns : goal.returns
returns c = (c.in_ok-spelled.ensures.fits, copy_is c.args.lists.now c.in_ok-spelled.spelled.items c.in_ok-bytes.bytes (c.in_ok-bytes.ensures.bytes ∙ c.deref.ensures.value) c.in_ok-spelled.ensures)
