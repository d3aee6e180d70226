use Rattle.std.proofs.Common.{drop}
use Rattle.mls_leaf.specs.GroupExtensions.{are_allowed}
use Rattle.mls_leaf.proofs.TypeMarksLaws.{AllowedFrom}
use Rattle.mls_leaf.proofs.group_extensions.GroupExtensions.is_allowed.Given as goal

abbrev pub invariant-loop-entry : goal.invariant-loop-entry
invariant-loop-entry l = AllowedFrom (are_allowed l.entries) l.marks (drop l.entry-index l.entries)
