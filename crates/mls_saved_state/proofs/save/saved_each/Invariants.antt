use Rattle.mls_saved_state.proofs.Copies.{AreCopied}
use Rattle.mls_saved_state.proofs.save.saved_each.Given as goal

abbrev pub invariant-loop-one : goal.invariant-loop-one
invariant-loop-one l = AreCopied l.keys l.saved.items l.one-index
