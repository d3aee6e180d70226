use Rattle.std.proofs.Common.{refl}
use Rattle.mls_types.specs.Welcome.{welcome}
use Rattle.mls_view.proofs.welcome.read_welcome.Goals as goal

pub of-whole-requires : goal.of-whole-requires
unfolding welcome
of-whole-requires c =
    let p = c.in_ok-secrets.ensures in (
      record { cipher_suite = c.in_ok-cipher_suite.cipher_suite; secrets = p.value; encrypted_group_info = c.in_ok-encrypted_group_info.encrypted_group_info.now },
      rw (c.rest-before.ensures, c.rest.ensures, c.in_ok-cipher_suite.ensures, p.is_read, c.in_ok-encrypted_group_info.ensures) refl,
    )

pub returns : goal.returns
unfolding welcome
returns c =
    let p = c.in_ok-secrets.ensures in
    record {
      value = record { cipher_suite = c.in_ok-cipher_suite.cipher_suite; secrets = p.value; encrypted_group_info = c.in_ok-encrypted_group_info.encrypted_group_info.now };
      is_read = rw (c.in_ok-cipher_suite.ensures, p.is_read, c.in_ok-encrypted_group_info.ensures) refl;
      shows = record {
        cipher_suite = refl;
        secrets = p.spells;
        encrypted_group_info = refl;
        whole = c.of-whole.ensures (record { cipher_suite = c.in_ok-cipher_suite.cipher_suite; secrets = p.value; encrypted_group_info = c.in_ok-encrypted_group_info.encrypted_group_info.now })
            (rw (c.rest-before.ensures, c.rest.ensures, c.in_ok-cipher_suite.ensures, p.is_read, c.in_ok-encrypted_group_info.ensures) refl);
      };
    }
