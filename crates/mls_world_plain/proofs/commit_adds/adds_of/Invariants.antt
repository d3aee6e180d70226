use Rattle.std.proofs.Common.{drop}
use Rattle.mls_member.specs.Answers.{AreShortItems}
use Rattle.mls_world_plain.proofs.Listing.{AddsFrom}
use Rattle.mls_world_plain.proofs.commit_adds.adds_of.Given as goal

abbrev pub invariant-loop-item : goal.invariant-loop-item
invariant-loop-item g l = AddsFrom l.member.kept l.items l.item-index l.adds.items × AreShortItems (drop l.item-index l.items)
