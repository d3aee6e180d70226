-- The Welcome of a made commit reads back, and opens at a candidate that it was made for.
use Rattle.std.specs.Prelude.{◌≡◌, ℕ, ◌<◌, ◌^◌, true, List, [], length, Option, Some, Ok, find}
use Rattle.std.specs.Str.{bytes_eq}
use Rattle.mls_wire.specs.Checks.{passed}
use Rattle.mls_leaf.specs.declared.key_package.KeyPackage.{KeyPackage}
use Rattle.mls_types.specs.GroupInfo.{group_info}
use Rattle.mls_types.specs.declared.group_info.GroupInfo.{GroupInfo}
use Rattle.mls_types.specs.declared.welcome.EncryptedGroupSecrets.{EncryptedGroupSecrets}
use Rattle.mls_types.specs.declared.welcome.Welcome.{Welcome}
use Rattle.mls_types.specs.Message.{mls_message}
use Rattle.mls_types.specs.declared.message.MlsMessage.TheVariants as message
use Rattle.mls_suite.specs.Crypto.{Crypto, Lawful}
use Rattle.mls_schedule.specs.Epoch.{welcome_key, welcome_nonce}
use Rattle.mls_model.specs.Candidate.{Candidate}
use Rattle.mls_model.specs.Messages.{decode_message, require_within_limit}
use Rattle.mls_model.specs.OpenedWelcome.{is_none_or_32, opened_secrets, opened_welcome}
use Rattle.mls_model.specs.Proposals.{package_reference}
use Rattle.mls_model.specs.Welcome.{secrets_with, entry_for, entries_for, welcome_message}

-- ---- how a Welcome was made

unfoldable pub encrypted_info : Crypto → GroupInfo → List ℕ → List ℕ
encrypted_info c info joiner = c.aead_seal (welcome_key joiner) (welcome_nonce joiner) [] (group_info.spell info)

unfoldable pub welcome_of : Crypto → GroupInfo → List ℕ → List EncryptedGroupSecrets → Welcome
welcome_of c info joiner entries =
    record { cipher_suite = c.number; secrets = entries; encrypted_group_info = encrypted_info c info joiner }

pub record Welcomes (c : Crypto) (info : GroupInfo) (joiner : List ℕ) (secrets : ℕ → List ℕ) (rnd : ℕ → List ℕ) (n : ℕ)
    (joiners : List (KeyPackage × ℕ)) (bytes : List ℕ) : Type 0 where
  pub entries : List EncryptedGroupSecrets
  pub entries_are : entries_for c (encrypted_info c info joiner) secrets rnd n joiners ≡ Ok entries
  pub info_short : require_within_limit (group_info.spell info) ≡ Ok passed
  pub bytes_are : mls_message.spell (message.Welcome (welcome_of c info joiner entries)) ≡ bytes
  pub short : require_within_limit (mls_message.spell (message.Welcome (welcome_of c info joiner entries))) ≡ Ok passed

abbrev pub WelcomeDid : Type 0
WelcomeDid = (c : Crypto) (info : GroupInfo) (joiner : List ℕ) (secrets : ℕ → List ℕ) (rnd : ℕ → List ℕ) (n : ℕ)
    (joiners : List (KeyPackage × ℕ)) (bytes : List ℕ) →
    welcome_message c info joiner secrets rnd n joiners ≡ Ok bytes → Welcomes c info joiner secrets rnd n joiners bytes

abbrev pub WelcomeReads : Type 0
WelcomeReads = (c : Crypto) → c.number < 2 ^ 16 →
    (info : GroupInfo) (joiner : List ℕ) (secrets : ℕ → List ℕ) (rnd : ℕ → List ℕ) (n : ℕ)
    (joiners : List (KeyPackage × ℕ)) (bytes : List ℕ)
    (w : Welcomes c info joiner secrets rnd n joiners bytes) →
    decode_message bytes ≡ Ok (message.Welcome (welcome_of c info joiner w.entries))

abbrev pub SecretsOpen : Type 0
SecretsOpen = (c : Crypto) → Lawful c →
    (k : Candidate) (offered : KeyPackage) (w : Welcome) (joiner : List ℕ) (path_secret : Option (List ℕ))
    (rnd : List ℕ) (entry : EncryptedGroupSecrets) →
    offered.init_key ≡ c.public k.init → entry_for c w.encrypted_group_info offered
    (secrets_with joiner path_secret) rnd ≡ Ok entry → length joiner ≡ 32 → is_none_or_32 path_secret ≡ true →
    opened_secrets c k w entry ≡ Ok (record { joiner_secret = joiner; path_secret = path_secret; psks = [] })

abbrev pub WelcomeOpens : Type 0
WelcomeOpens = (c : Crypto) → Lawful c → c.number < 2 ^ 16 →
    (info : GroupInfo) (joiner : List ℕ) (secrets : ℕ → List ℕ) (rnd : ℕ → List ℕ) (n : ℕ)
    (joiners : List (KeyPackage × ℕ)) (bytes : List ℕ)
    (w : Welcomes c info joiner secrets rnd n joiners bytes) (k : Candidate) (offered : KeyPackage)
    (path_secret : Option (List ℕ)) (seed : List ℕ) (entry : EncryptedGroupSecrets) →
    find (λ (e : EncryptedGroupSecrets). bytes_eq e.new_member (package_reference k.offered)) w.entries ≡ Some entry →
    offered.init_key ≡ c.public k.init →
    entry_for c (encrypted_info c info joiner) offered (secrets_with joiner path_secret) seed ≡ Ok entry →
    length joiner ≡ 32 → is_none_or_32 path_secret ≡ true →
    group_info.Fits info → info.group_context.cipher_suite ≡ c.number → opened_welcome c k bytes
    ≡ Ok (record { joiner = joiner; path_secret = path_secret; bytes = group_info.spell info; info = info })
