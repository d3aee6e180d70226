use Rattle.std.proofs.Common.{length}
use Rattle.mls_wire.specs.CombineReads.{without_value}
use Rattle.mls_leaf.specs.GroupExtensions.{allowed_extensions}
use Rattle.mls_leaf.proofs.TypeMarksLaws.{PassesOn}
use Rattle.mls_leaf.proofs.group_extensions.check_extensions.Given as goal

abbrev pub invariant-loop-content : goal.invariant-loop-content
invariant-loop-content l = PassesOn (without_value (allowed_extensions l.fn.content)) l.marks l.content

abbrev pub decreases-loop-content : goal.decreases-loop-content
decreases-loop-content l = length l.content
