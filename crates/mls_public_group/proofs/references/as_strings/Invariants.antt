use Rattle.std.proofs.Common.{◌≡◌, take}
use Rattle.mls_tree_array.specs.DistinctStrings.{bytes_in}
use Rattle.mls_public_group.proofs.references.as_strings.Given as goal

abbrev pub invariant-loop-reference : goal.invariant-loop-reference
invariant-loop-reference l = bytes_in l.strings.items ≡ take l.reference-index l.references
