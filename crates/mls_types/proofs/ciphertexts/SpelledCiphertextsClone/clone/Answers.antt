use Rattle.mls_types.proofs.ciphertexts.SpelledCiphertextsClone.clone.Goals as goal

pub invariant_of-result : goal.invariant_of-result
invariant_of-result c = rw (c.in_ok-bytes.ensures.items, c.deref.ensures.value) c.self.invariant
