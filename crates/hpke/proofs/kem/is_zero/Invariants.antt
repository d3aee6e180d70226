use Rattle.std.proofs.Common.{◌≡◌}
use Rattle.hpke.proofs.ZeroLemmas.{fold_bytes}
use Rattle.hpke.proofs.kem.is_zero.Given as goal

abbrev pub invariant-loop-i : goal.invariant-loop-i
invariant-loop-i l = l.ones ≡ fold_bytes l.bytes l.i
