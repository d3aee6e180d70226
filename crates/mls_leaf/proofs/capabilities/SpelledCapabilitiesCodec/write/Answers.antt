use Rattle.std.proofs.Common.{◌∙◌, ap, ◌++◌, List, ℕ}
use Rattle.mls_leaf.proofs.CapabilityLaws.{spelling_fits, spelling_is}
use Rattle.mls_leaf.proofs.capabilities.SpelledCapabilitiesCodec.write.Goals as goal

pub returns : goal.returns
returns c = (
  spelling_fits c.self.inside.bytes c.args.self.now c.self.view_is c.self.invariant,
  c.in_ok-spelled.ensures ∙ ap (λ (l : List ℕ). c.args.writer.now ++ l) (c.as_slice.ensures ∙ spelling_is c.self.inside.bytes c.args.self.now c.self.view_is c.self.invariant),
)
