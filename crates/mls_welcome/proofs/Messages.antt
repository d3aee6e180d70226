-- The message of a Welcome, of its parts.
use Rattle.std.proofs.Common.{◌≡◌, ℕ, ◌^◌, ◌<◌, ◌≤◌, true, false, List, [], ◌++◌, length, Result, Ok, Err, refl, ap, ◌∙◌, arith, length-append}
use Rattle.std.specs.Int.{w16}
use Rattle.mls_wire.specs.Checks.{Passed, ◌>>◌}
use Rattle.mls_wire.specs.Reading.{◌>>=◌, uint, header, opaque}
use Rattle.mls_wire.specs.Combine.{vector}
use Rattle.mls_leaf.specs.Limits.{input_limit}
use Rattle.mls_leaf.specs.declared.key_package.KeyPackage.{KeyPackage}
use Rattle.mls_types.specs.GroupInfo.{group_info}
use Rattle.mls_types.specs.Welcome.{welcome, encrypted_group_secrets, encrypted_group_secrets_nonempty}
use Rattle.mls_types.specs.declared.group_info.GroupInfo.{GroupInfo}
use Rattle.mls_types.specs.declared.welcome.EncryptedGroupSecrets.{EncryptedGroupSecrets}
use Rattle.mls_types.specs.declared.welcome.Welcome.{Welcome}
use Rattle.mls_types.specs.Message.{mls_message}
use Rattle.mls_types.specs.declared.message.MlsMessage.TheVariants as message
use Rattle.mls_suite.specs.Crypto.{Crypto, Lawful}
use Rattle.mls_schedule.specs.Epoch.{welcome_key, welcome_nonce}
use Rattle.mls_model.specs.Messages.{require_within_limit}
use Rattle.mls_model.specs.Welcome.{entries_for, welcome_message}
use Rattle.mls_welcome.specs.WelcomeMessage.{have_fit_keys, welcome_of, message_with}
use Rattle.mls_public_group.specs.MessageLimit.{limited_text}
use Rattle.mls_welcome.proofs.Measured.{limited_long}
use Rattle.mls_welcome.proofs.SealedEntries.{entries_fit, entries_unfit}

-- ---- a long GroupInfo

le_last : (xs ys : List ℕ) (n : ℕ) → n ≤ length ys → n ≤ length (xs ++ ys)
le_last xs ys n le = omega (arith, length-append xs ys)

long_message : (v : Welcome) → 2 ^ 30 ≤ length v.encrypted_group_info → input_limit < length (mls_message.spell (message.Welcome v))
unfolding mls_message welcome
long_message v le =
    let info : List ℕ = opaque v.encrypted_group_info in
    let t3 : List ℕ = (vector encrypted_group_secrets encrypted_group_secrets_nonempty).spell v.secrets ++ info in
    let t2 : List ℕ = uint w16 v.cipher_suite ++ t3 in
    let t1 : List ℕ = uint w16 3 ++ t2 in
    let l4 : 2 ^ 30 ≤ length info = le_last (header (length v.encrypted_group_info)) v.encrypted_group_info _ le in
    let l3 : 2 ^ 30 ≤ length t3 = le_last ((vector encrypted_group_secrets encrypted_group_secrets_nonempty).spell v.secrets) info _ l4 in
    let l2 : 2 ^ 30 ≤ length t2 = le_last (uint w16 v.cipher_suite) t3 _ l3 in
    let l1 : 2 ^ 30 ≤ length t1 = le_last (uint w16 3) t2 _ l2 in
    let all : 2 ^ 30 ≤ length (uint w16 1 ++ t1) = le_last (uint w16 1) t1 _ l1 in
    over (length (uint w16 1 ++ t1)) all
  where
    over : (n : ℕ) → 2 ^ 30 ≤ n → input_limit < n
    over n le = omega arith

module _ (c : Crypto) (encrypted : List ℕ) (secrets rnd : ℕ → List ℕ) (n : ℕ) (js : List (KeyPackage × ℕ)) where
  -- the message of entries that are known
  pub message_is : (r : Result (List EncryptedGroupSecrets) ℕ) → entries_for c encrypted secrets rnd n js ≡ r → message_with c encrypted secrets rnd n js ≡ (r >>= λ xs. limited_text (mls_message.spell (message.Welcome (welcome_of c xs encrypted))))
  unfolding message_with
  message_is r e = ap (λ (r : Result (List EncryptedGroupSecrets) ℕ). r >>= λ xs. limited_text (mls_message.spell (message.Welcome (welcome_of c xs encrypted)))) e

  pub long_refused : Lawful c → 2 ^ 30 ≤ length encrypted → have_fit_keys c js ≡ true → message_with c encrypted secrets rnd n js ≡ Err 6
  long_refused laws le fit =
      let made = entries_fit c laws encrypted secrets rnd n js fit in
      message_is (Ok made.0) made.1 ∙ limited_long _ (long_message (welcome_of c made.0 encrypted) le)

  pub unfit_refused : Lawful c → have_fit_keys c js ≡ false → message_with c encrypted secrets rnd n js ≡ Err 36
  unfit_refused laws fit = message_is (Err 36) (entries_unfit c laws encrypted secrets rnd n js fit)

-- ---- after the GroupInfo

abbrev after : Crypto → GroupInfo → List ℕ → (ℕ → List ℕ) → (ℕ → List ℕ) → ℕ → List (KeyPackage × ℕ) → Result (List ℕ) ℕ
after c info joiner secrets rnd n js = message_with c (c.aead_seal (welcome_key joiner) (welcome_nonce joiner) [] (group_info.spell info)) secrets rnd n js

module _ (c : Crypto) (info : GroupInfo) (joiner : List ℕ) (secrets rnd : ℕ → List ℕ) (n : ℕ) (js : List (KeyPackage × ℕ)) where
  whole_is : welcome_message c info joiner secrets rnd n js ≡ (require_within_limit (group_info.spell info) >> after c info joiner secrets rnd n js)
  unfolding welcome_message message_with
  whole_is = refl

  pub info_refused : (e : ℕ) → limited_text (group_info.spell info) ≡ Err e → welcome_message c info joiner secrets rnd n js ≡ Err e
  info_refused e refused = whole_is ∙ by_within (require_within_limit (group_info.spell info)) refused
    where
      by_within : (r : Result Passed ℕ) → (r >> Ok (group_info.spell info)) ≡ Err e → (r >> after c info joiner secrets rnd n js) ≡ Err e
      by_within (Ok x) h = absurd cc
      by_within (Err f) h = cc

  -- with the text of the GroupInfo, and what it is sealed to
  pub info_done : (text encrypted key nonce : List ℕ) → limited_text (group_info.spell info) ≡ Ok text → key ≡ welcome_key joiner → nonce ≡ welcome_nonce joiner → encrypted ≡ c.aead_seal key nonce [] text
      → welcome_message c info joiner secrets rnd n js ≡ message_with c encrypted secrets rnd n js
  info_done text encrypted key nonce done key_is nonce_is sealed =
      whole_is ∙ by_within (require_within_limit (group_info.spell info)) done
    where
      sealed_is : group_info.spell info ≡ text → c.aead_seal (welcome_key joiner) (welcome_nonce joiner) [] (group_info.spell info) ≡ encrypted
      sealed_is same = cc

      by_within : (r : Result Passed ℕ) → (r >> Ok (group_info.spell info)) ≡ Ok text → (r >> after c info joiner secrets rnd n js) ≡ message_with c encrypted secrets rnd n js
      by_within (Ok x) h = let same : group_info.spell info ≡ text = cc in ap (λ (e : List ℕ). message_with c e secrets rnd n js) (sealed_is same)
      by_within (Err f) h = absurd cc
