use Rattle.std.proofs.Common.{length}
use Rattle.mls_cli_place.proofs.Items.{GoesOn}
use Rattle.mls_cli_place.proofs.vectors.locate_items.Given as goal

abbrev pub invariant-loop-content : goal.invariant-loop-content
invariant-loop-content g l = GoesOn g.T.Located.walk l.fn.content l.index l.content

abbrev pub decreases-loop-content : goal.decreases-loop-content
decreases-loop-content g l = length l.content
