use Rattle.std.proofs.Common.{drop}
use Rattle.mls_member.proofs.LoadedKept.{AreLoaded}
use Rattle.mls_member.proofs.load.load_all_kept.Given as goal

abbrev pub invariant-loop-one : goal.invariant-loop-one
invariant-loop-one l = AreLoaded l.saved (drop l.one-index l.saved) l.kept.items
