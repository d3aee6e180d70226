use Rattle.std.proofs.Common.{refl}
use Rattle.mls_types.specs.UpdatePath.{hpke_ciphertext}
use Rattle.mls_types.specs.Welcome.{encrypted_group_secrets}
use Rattle.mls_view.proofs.entries.read_secrets.Goals as goal

pub returns : goal.returns
unfolding encrypted_group_secrets hpke_ciphertext
returns c = record {
  value = record { new_member = c.in_ok-new_member.new_member.now; encrypted_group_secrets = record { kem_output = c.in_ok-kem_output.kem_output.now; ciphertext = c.in_ok-ciphertext.ciphertext.now } };
  is_read = rw (c.in_ok-new_member.ensures, c.in_ok-kem_output.ensures, c.in_ok-ciphertext.ensures) refl;
  shows = record { new_member = refl; kem_output = refl; ciphertext = refl };
}
