-- What a Welcome is sealed of: its GroupInfo, signed, and the entries of its joiners (RFC 9420, 12.4.3.1).
use Rattle.std.specs.Prelude.{◌≡◌, ◌≢◌, ℕ, ◌≤◌, ◌^◌, List, [], length, map, codes, Option, Result, Ok, Err}
use Rattle.std.specs.Global.{Vec}
use Rattle.std.specs.Option.{option_copied}
use Rattle.mls_wire.specs.Checks.{Answers}
use Rattle.mls_types.specs.GroupInfo.{group_info, group_info_tbs}
use Rattle.mls_types.specs.declared.group_info.GroupInfo.{GroupInfo}
use Rattle.mls_types.specs.declared.welcome.EncryptedGroupSecrets.{EncryptedGroupSecrets}
use Rattle.mls_types.specs.declared.welcome.GroupSecrets.{GroupSecrets}
use Rattle.mls_suite.specs.Crypto.{Crypto}
use Rattle.mls_suite.specs.LabelCalls.{EncryptsWithLabel}
use Rattle.mls_suite.specs.Labels.{sign_with_label}
use Rattle.mls_suite.specs.declared.Sealed.{Sealed}
use Rattle.mls_treekem_model.specs.Seeds.{seal_seed}
use Rattle.mls_model.specs.PublicState.{PublicState}
use Rattle.mls_model.specs.Welcome.{secrets_with, entry_for, entries_for, signed_info, info_of, welcome_message}
use Rattle.mls_public_group.specs.MessageLimit.{limited_text}
use Rattle.mls_welcome.specs.Faults.{number_of, GivesBytes}
use Rattle.mls_welcome.specs.Joiners.{package_and_leaf_of, AreSecretsOf}
use Rattle.mls_welcome.specs.WelcomeMessage.{message_with}
use Rattle.mls_welcome.specs.declared.entries.Sealer.{Sealer}
use Rattle.mls_welcome.specs.declared.error.WelcomeError.{WelcomeError}
use Rattle.mls_welcome.specs.declared.welcome_message.Joiner.{Joiner}

-- ---- the GroupInfo

-- the signature of a GroupInfo (RFC 9420, 12.4.3)
abbrev pub info_signature : Crypto → List ℕ → GroupInfo → List ℕ
info_signature c signing info =
    sign_with_label c signing (codes "GroupInfoTBS") (group_info_tbs info)

-- the signed GroupInfo is refused with this number, unless it is `OutOfMemory`
abbrev pub IsInfoRefused : Crypto → List ℕ → GroupInfo → WelcomeError → Type 0
IsInfoRefused c signing info e =
    number_of e ≢ 1 →
    limited_text (group_info.spell (signed_info c signing info)) ≡ Err (number_of e)

-- The call answers the spelling of a group's signed GroupInfo, or refuses with `TooLong` (6) where it is too large, or
-- with `OutOfMemory`.
abbrev pub SignsInfo : Crypto → List ℕ → PublicState → List ℕ → ℕ → Result (Vec ℕ) WelcomeError →
    Type 0
SignsInfo c signing p tag signer result =
    GivesBytes (limited_text (group_info.spell (info_of c signing p tag signer))) result

-- ---- the entries

-- these are a joiner's GroupSecrets, without pre-shared keys
abbrev pub IsSecretsOf : List ℕ → Option (List ℕ) → GroupSecrets → Type 0
IsSecretsOf joiner path secrets =
    secrets ≡ record { joiner_secret = joiner; path_secret = path; psks = [] }

-- The call answers a joiner's GroupSecrets, spelled, unless memory was refused.
abbrev pub SpellsSecrets : List ℕ → Option (List ℕ) → Result (Vec ℕ) WelcomeError → Type 0
SpellsSecrets joiner path result = GivesBytes (Ok (secrets_with joiner path)) result

-- The call seals a text to a public key under an encrypted GroupInfo, or answers None where the key
-- isn't fit, unless memory was refused.
abbrev pub SealsUnder : {E : Type 0} → Crypto → List ℕ → List ℕ → List ℕ → List ℕ →
    Result (Option Sealed) E → Type 0
SealsUnder c pk encrypted_info pt rnd result =
    EncryptsWithLabel c pk (codes "Welcome") encrypted_info pt rnd result

-- the entry of a joiner, under seal number n
abbrev pub entry_of : Crypto → List ℕ → Sealer → Joiner → ℕ → Result EncryptedGroupSecrets ℕ
entry_of c encrypted_info sealer joiner n =
    entry_for c encrypted_info joiner.key_package.now
    (secrets_with sealer.joiner_secret.now (option_copied joiner.path_secret))
    (seal_seed sealer.seed.now n)

-- The call answers the entries of the joiners, whose seals are numbered from `first` on, or refuses with the number of
-- the first that fails, or with `OutOfMemory`.
abbrev pub SealsEntries : Crypto → List ℕ → Sealer → List Joiner → ℕ →
    Result (Vec EncryptedGroupSecrets) WelcomeError → Type 0
SealsEntries c encrypted_info sealer joiners first result =
    (secrets : ℕ → List ℕ) → AreSecretsOf sealer.joiner_secret.now secrets joiners →
    Answers (λ v. v.items) number_of
    (entries_for c encrypted_info secrets (seal_seed sealer.seed.now) first (map package_and_leaf_of joiners)) result

-- ---- the message

-- where the encrypted GroupInfo is too long to seal anything under it, the message is refused with this error's number
abbrev pub RefusesLong : Crypto → List Joiner → WelcomeError → Type 0
RefusesLong c joiners e =
    (encrypted_info : List ℕ) (secrets rnd : ℕ → List ℕ) (n : ℕ) → 2 ^ 30 ≤ length encrypted_info →
    message_with c encrypted_info secrets rnd n (map package_and_leaf_of joiners)
    ≡ Err (number_of e)

-- The call answers the message of a Welcome with this encrypted GroupInfo, or refuses with the number of what fails, or
-- with `OutOfMemory`.
abbrev pub SealsMessage : Crypto → List ℕ → Sealer → List Joiner → ℕ → Result (Vec ℕ) WelcomeError →
    Type 0
SealsMessage c encrypted_info sealer joiners first result =
    (secrets : ℕ → List ℕ) → AreSecretsOf sealer.joiner_secret.now secrets joiners →
    GivesBytes (message_with c encrypted_info secrets (seal_seed sealer.seed.now) first (map package_and_leaf_of joiners)) result

-- The call answers the message of a Welcome with this GroupInfo, or refuses with the number of what fails, or with
-- `OutOfMemory`.
abbrev pub MakesWelcome : Crypto → GroupInfo → List ℕ → List Joiner → List ℕ → ℕ →
    Result (Vec ℕ) WelcomeError → Type 0
MakesWelcome c info joiner_secret joiners seed first result =
    (secrets : ℕ → List ℕ) → AreSecretsOf joiner_secret secrets joiners →
    GivesBytes (welcome_message c info joiner_secret secrets (seal_seed seed) first (map package_and_leaf_of joiners)) result
