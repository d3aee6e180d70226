use Rattle.mls_member.proofs.Saving.{AreSaved}
use Rattle.mls_member.proofs.save.saved_proposals.Given as goal

abbrev pub invariant-loop-one : goal.invariant-loop-one
invariant-loop-one l = AreSaved l.kept l.saved.items l.one-index
