use Rattle.std.proofs.Common.{refl}
use Rattle.mls_types.specs.UpdatePath.{hpke_ciphertext}
use Rattle.mls_types.proofs.ciphertexts.CiphertextRef.read.Goals as goal

pub returns : goal.returns
unfolding hpke_ciphertext
returns c = rw (c.in_ok-kem_output.ensures, c.in_ok-ciphertext.ensures) refl
