-- The formats of welcomes (RFC 9420, 12.4.3.1).
use Rattle.std.specs.Prelude.{refl}
use Rattle.mls_wire.specs.Format.{Format}
use Rattle.mls_wire.specs.Combine.{◌⨾◌, image, vector, optional, byte_string, uint16}
use Rattle.mls_wire.specs.CombineReads.{IsNonempty}
use Rattle.mls_leaf.specs.Nonempty.{byte_string_nonempty, uint16_nonempty, first_nonempty}
use Rattle.mls_types.specs.UpdatePath.{hpke_ciphertext}
use Rattle.mls_types.specs.declared.welcome.EncryptedGroupSecrets.{EncryptedGroupSecrets}
use Rattle.mls_types.specs.declared.welcome.GroupSecrets.{GroupSecrets}
use Rattle.mls_types.specs.declared.welcome.Welcome.{Welcome}

-- EncryptedGroupSecrets (RFC 9420, 12.4.3.1): new_member<V>, HPKECiphertext
unfoldable pub encrypted_group_secrets : Format EncryptedGroupSecrets
encrypted_group_secrets = image (byte_string ⨾ hpke_ciphertext)
    (λ x. record { new_member = x.0; encrypted_group_secrets = x.1 })
    (λ v. (v.new_member, v.encrypted_group_secrets))
    (λ v. refl) (λ x _. refl)

pub encrypted_group_secrets_nonempty : IsNonempty encrypted_group_secrets
unfolding encrypted_group_secrets
encrypted_group_secrets_nonempty v fits = first_nonempty byte_string hpke_ciphertext byte_string_nonempty (v.new_member, v.encrypted_group_secrets) fits

-- GroupSecrets (RFC 9420, 12.4.3.1): joiner_secret<V>, optional<path_secret<V>>, psks<V> (kept as bytes)
unfoldable pub group_secrets : Format GroupSecrets
group_secrets = image (byte_string ⨾ optional byte_string ⨾ byte_string)
    (λ x. record { joiner_secret = x.0; path_secret = x.1.0; psks = x.1.1 })
    (λ v. (v.joiner_secret, (v.path_secret, v.psks)))
    (λ v. refl) (λ x _. refl)

pub group_secrets_nonempty : IsNonempty group_secrets
unfolding group_secrets
group_secrets_nonempty v fits = first_nonempty byte_string (optional byte_string ⨾ byte_string) byte_string_nonempty (v.joiner_secret, (v.path_secret, v.psks)) fits

-- Welcome (RFC 9420, 12.4.3.1): uint16 cipher_suite, EncryptedGroupSecrets<V>, encrypted_group_info<V>
unfoldable pub welcome : Format Welcome
welcome = image (uint16 ⨾ vector encrypted_group_secrets encrypted_group_secrets_nonempty ⨾ byte_string)
    (λ x. record { cipher_suite = x.0; secrets = x.1.0; encrypted_group_info = x.1.1 })
    (λ v. (v.cipher_suite, (v.secrets, v.encrypted_group_info)))
    (λ v. refl) (λ x _. refl)

pub welcome_nonempty : IsNonempty welcome
unfolding welcome
welcome_nonempty v fits = first_nonempty uint16 (vector encrypted_group_secrets encrypted_group_secrets_nonempty ⨾ byte_string) uint16_nonempty (v.cipher_suite, (v.secrets, v.encrypted_group_info)) fits
