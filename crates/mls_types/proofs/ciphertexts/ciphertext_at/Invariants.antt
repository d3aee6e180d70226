use Rattle.mls_types.proofs.CiphertextLaws.{IsFrom}
use Rattle.mls_types.proofs.ciphertexts.ciphertext_at.Given as goal

abbrev pub invariant-loop : goal.invariant-loop
invariant-loop l = IsFrom l.fn.bytes l.counter l.reader
