use Rattle.std.proofs.Common.{subst, sym, List, ℕ}
use Rattle.mls_leaf.specs.Faults.{Spells}
use Rattle.mls_leaf.specs.Leaf.{capabilities}
use Rattle.mls_leaf.specs.declared.leaf.Capabilities.{Capabilities}
use Rattle.mls_leaf.proofs.capabilities.SpelledCapabilities.bytes.Goals as goal

pub returns : goal.returns
returns c =
    subst (λ (l : List ℕ). Spells capabilities c.args.self.now l) (sym c.as_slice.ensures)
    (subst (λ (v : Capabilities). Spells capabilities v c.self.inside.bytes) c.self.view_is c.self.invariant)
