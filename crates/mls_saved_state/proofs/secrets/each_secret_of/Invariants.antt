use Rattle.mls_saved_state.proofs.Copies.{AreCopied}
use Rattle.mls_saved_state.proofs.secrets.each_secret_of.Given as goal

abbrev pub invariant-loop-one : goal.invariant-loop-one
invariant-loop-one l = AreCopied l.saved l.keys.items l.one-index
