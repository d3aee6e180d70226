use Rattle.std.proofs.Common.{ℕ, List, ◌∙◌, ap, subst, sym}
use Rattle.mls_leaf.specs.Capabilities.{capabilities_in}
use Rattle.mls_leaf.specs.Faults.{Spells}
use Rattle.mls_leaf.specs.Leaf.{capabilities}
use Rattle.mls_leaf.proofs.capabilities.SpelledCapabilitiesClone.clone.Goals as goal

pub invariant_of-result : goal.invariant_of-result
invariant_of-result c = subst (λ (b : List ℕ). Spells capabilities (capabilities_in b) b) (sym c.in_ok-bytes.ensures.cases) c.self.invariant

pub returns : goal.returns
returns c = record { cases = ap capabilities_in c.in_ok-bytes.ensures.cases ∙ c.self.view_is }
