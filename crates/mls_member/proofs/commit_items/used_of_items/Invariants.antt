use Rattle.std.proofs.Common.{drop}
use Rattle.mls_member.proofs.UsedItems.{AreTaken}
use Rattle.mls_member.proofs.commit_items.used_of_items.Given as goal

abbrev pub invariant-loop-item : goal.invariant-loop-item
invariant-loop-item l = AreTaken l.kept l.committer l.items (drop l.item-index l.items) l.used.items
