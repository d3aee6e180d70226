use Rattle.std.proofs.Common.{ap₂}
use Rattle.mls_types.specs.declared.update_path.HpkeCiphertext.{HpkeCiphertext}
use Rattle.mls_types.proofs.ciphertexts.CiphertextRef.of.Goals as goal

pub returns : goal.returns
returns c = ap₂ (λ a b. let x : HpkeCiphertext = record { kem_output = a; ciphertext = b } in x) c.as_slice.ensures c.as_slice-2.ensures
