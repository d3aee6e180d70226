use Rattle.std.proofs.Common.{length}
use Rattle.mls_leaf.specs.GroupExtensions.{allowed_extensions}
use Rattle.mls_leaf.proofs.TypeMarksLaws.{ReadsOn}
use Rattle.mls_leaf.proofs.group_extensions.extensions_of.Given as goal

abbrev pub invariant-loop-content : goal.invariant-loop-content
invariant-loop-content l = ReadsOn (allowed_extensions l.fn.content) l.entries.items l.marks l.content

abbrev pub decreases-loop-content : goal.decreases-loop-content
decreases-loop-content l = length l.content
