use Rattle.std.proofs.Common.{◌≡◌, ◌≤◌, take}
use Rattle.mls_leaf.specs.Limits.{input_limit}
use Rattle.mls_leaf.proofs.ShortLaws.{content_length}
use Rattle.mls_leaf.proofs.group_extensions.is_short.Given as goal

abbrev pub invariant-loop-entry : goal.invariant-loop-entry
invariant-loop-entry l = record { exact : l.content ≡ content_length (take l.entry-index l.entries); short : l.content ≤ input_limit }
