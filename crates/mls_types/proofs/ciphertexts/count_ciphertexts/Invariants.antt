use Rattle.std.proofs.Common.{length}
use Rattle.mls_types.proofs.CiphertextLaws.{Counted}
use Rattle.mls_types.proofs.ciphertexts.count_ciphertexts.Given as goal

abbrev pub invariant-loop-reader : goal.invariant-loop-reader
invariant-loop-reader l = Counted l.fn.bytes l.count l.reader

abbrev pub decreases-loop-reader : goal.decreases-loop-reader
decreases-loop-reader l = length l.reader
