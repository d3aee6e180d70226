-- What a candidate finds in a Welcome (RFC 9420, 12.4.3.1): the first check that fails, by its number, or the GroupInfo
-- with the secrets for it.
use Rattle.std.specs.Prelude.{ℕ, ◌==◌, Bool, true, List, [], length, codes, find, Option, Some, None, Result, Ok, Err}
use Rattle.std.specs.Str.{bytes_eq}
use Rattle.mls_wire.specs.Checks.{require, require_some, ◌>>◌}
use Rattle.mls_wire.specs.Reading.{◌>>=◌}
use Rattle.mls_wire.specs.Whole.{whole}
use Rattle.mls_leaf.specs.Limits.{input_limit}
use Rattle.mls_types.specs.GroupInfo.{group_info}
use Rattle.mls_types.specs.Welcome.{group_secrets}
use Rattle.mls_types.specs.declared.group_info.GroupInfo.{GroupInfo}
use Rattle.mls_types.specs.declared.update_path.HpkeCiphertext.{HpkeCiphertext}
use Rattle.mls_types.specs.declared.welcome.EncryptedGroupSecrets.{EncryptedGroupSecrets}
use Rattle.mls_types.specs.declared.welcome.GroupSecrets.{GroupSecrets}
use Rattle.mls_types.specs.declared.welcome.Welcome.{Welcome}
use Rattle.mls_types.specs.declared.message.MlsMessage.{MlsMessage}
use Rattle.mls_types.specs.declared.message.MlsMessage.TheVariants as message
use Rattle.mls_suite.specs.Crypto.{Crypto}
use Rattle.mls_suite.specs.Labels.{decrypt_with_label}
use Rattle.mls_schedule.specs.Epoch.{welcome_key, welcome_nonce}
use Rattle.mls_model.specs.Proposals.{package_reference}
use Rattle.mls_model.specs.Messages.{decode_message, are_bytes}
use Rattle.mls_model.specs.Candidate.{Candidate}

-- the Welcome that a message is (RFC 9420, 6)
abbrev pub welcome_in : MlsMessage → Option Welcome
welcome_in (message.Welcome w) = Some w
welcome_in other = None

-- a value that was read; any fault of reading gives this number instead
abbrev pub or_fault : {A : Type 0} → ℕ → Result A ℕ → Result A ℕ
or_fault n (Ok x) = Ok x
or_fault n (Err e) = Err n

-- whether a secret that may be left out has 32 bytes, where it is there
abbrev pub is_none_or_32 : Option (List ℕ) → Bool
is_none_or_32 None = true
is_none_or_32 (Some secret) = length secret == 32

-- ---- the secrets for a candidate

-- the first entry for a reference (RFC 9420, 12.4.3.1)
abbrev pub find_entry : List ℕ → List EncryptedGroupSecrets → Option EncryptedGroupSecrets
find_entry reference entries = find (λ (e : EncryptedGroupSecrets). bytes_eq e.new_member reference) entries

-- what a candidate's init key opens: `SecretsUnreadable` (73) where it doesn't (RFC 9420, 12.4.3.1)
abbrev pub decrypt_group_secrets : Crypto → Candidate → List ℕ → HpkeCiphertext → Result (List ℕ) ℕ
decrypt_group_secrets c k info sealed =
    require_some 73 (decrypt_with_label c k.init (codes "Welcome") info sealed.kem_output sealed.ciphertext)

-- `SecretsUnreadable` (73) the joiner secret or the path secret hasn't 32 bytes
unfoldable pub check_secret_lengths : GroupSecrets → Result GroupSecrets ℕ
check_secret_lengths secrets = do
  require 73 (length secrets.joiner_secret == 32)
  require 73 (is_none_or_32 secrets.path_secret)
  Ok secrets

-- what is sealed in a candidate's entry (RFC 9420, 12.4.3.1): `SecretsUnreadable` (73) where it doesn't open, is no
-- GroupSecrets, or has a secret that isn't 32 bytes
unfoldable pub opened_secrets : Crypto → Candidate → Welcome → EncryptedGroupSecrets → Result GroupSecrets ℕ
opened_secrets c k w entry = do
  bytes ← decrypt_group_secrets c k w.encrypted_group_info entry.encrypted_group_secrets
  secrets ← or_fault 73 (whole group_secrets input_limit bytes)
  check_secret_lengths secrets

-- ---- the GroupInfo

-- what a Welcome gave to a candidate (RFC 9420, 12.4.3.1): the joiner secret, a path secret or none, and the GroupInfo
-- with its bytes
pub record Opened : Type 0 where
  pub joiner : List ℕ
  pub path_secret : Option (List ℕ)
  pub bytes : List ℕ
  pub info : GroupInfo

-- the bytes of the GroupInfo that is sealed under a joiner secret: `GroupInfoUnreadable` (75) where it doesn't open
-- (RFC 9420, 12.4.3.1)
abbrev pub plain_info : Crypto → List ℕ → List ℕ → Result (List ℕ) ℕ
plain_info c joiner sealed = require_some 75 (c.aead_open (welcome_key joiner) (welcome_nonce joiner) [] sealed)

-- what the secrets of an entry open: `GroupInfoUnreadable` (75) the GroupInfo doesn't open or is none,
-- `WrongSuite` (71) it is of another suite (RFC 9420, 12.4.3.1)
unfoldable pub open_group_info : Crypto → GroupSecrets → List ℕ → Result Opened ℕ
open_group_info c secrets sealed = do
  plain ← plain_info c secrets.joiner_secret sealed
  require 75 (are_bytes plain)
  info ← or_fault 75 (whole group_info input_limit plain)
  require 71 (info.group_context.cipher_suite == c.number)
  Ok (record { joiner = secrets.joiner_secret; path_secret = secrets.path_secret; bytes = plain; info = info })

-- what a Welcome of the suite gives to a candidate: `NotForMe` (72) no entry for the candidate's KeyPackage,
-- `SecretsUnreadable` (73) that entry can't be read, `PskPresent` (74) a pre-shared key is asked for, then the checks
-- of the GroupInfo (RFC 9420, 12.4.3.1)
unfoldable pub open_for_candidate : Crypto → Candidate → Welcome → Result Opened ℕ
open_for_candidate c k w = do
  entry ← require_some 72 (find_entry (package_reference k.offered) w.secrets)
  secrets ← opened_secrets c k w entry
  require 74 (length secrets.psks == 0)
  open_group_info c secrets w.encrypted_group_info

-- the secrets and the GroupInfo of a candidate's Welcome: decoding; `NotWelcome` (70) no Welcome, `WrongSuite` (71) of
-- another suite, then what it gives to the candidate (RFC 9420, 12.4.3.1)
unfoldable pub opened_welcome : Crypto → Candidate → List ℕ → Result Opened ℕ
opened_welcome c k bytes = do
  outer ← decode_message bytes
  w ← require_some 70 (welcome_in outer)
  require 71 (w.cipher_suite == c.number)
  open_for_candidate c k w
