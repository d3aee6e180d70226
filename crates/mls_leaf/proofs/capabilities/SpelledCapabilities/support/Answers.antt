use Rattle.std.proofs.Common.{ℕ, List, refl, sym, subst}
use Rattle.mls_leaf.specs.Faults.{Spells}
use Rattle.mls_leaf.specs.Leaf.{capabilities}
use Rattle.mls_leaf.specs.declared.leaf.Capabilities.{Capabilities}
use Rattle.mls_leaf.proofs.capabilities.SpelledCapabilities.support.Goals as goal

pub returns : goal.returns
returns c =
    let spells = subst (λ (l : List ℕ). Spells capabilities c.args.self.now l) (sym c.as_slice.ensures) (subst (λ (v : Capabilities). Spells capabilities v c.self.inside.bytes) c.self.view_is c.self.invariant) in
    rw (c.unwrap_or.ensures, c.are_listed.ensures c.args.self.now spells) refl
