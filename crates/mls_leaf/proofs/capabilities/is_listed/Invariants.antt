use Rattle.std.proofs.Common.{ℕ, List, length}
use Rattle.mls_leaf.specs.Capabilities.{SpellNumbers}
use Rattle.mls_leaf.proofs.CapabilityLaws.{IsLeft}
use Rattle.mls_leaf.proofs.capabilities.is_listed.Given as goal

abbrev pub invariant-loop-next : goal.invariant-loop-next
invariant-loop-next l = (listed : List ℕ) → SpellNumbers listed l.fn.numbers → IsLeft listed l.number l.numbers

abbrev pub decreases-loop-next : goal.decreases-loop-next
decreases-loop-next l = length l.numbers
