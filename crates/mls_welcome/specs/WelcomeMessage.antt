-- What is made of a sealed GroupInfo.
use Rattle.std.specs.Prelude.{ℕ, Bool, List, Result}
use Rattle.std.specs.List.{list_all}
use Rattle.mls_wire.specs.Reading.{◌>>=◌}
use Rattle.mls_leaf.specs.declared.key_package.KeyPackage.{KeyPackage}
use Rattle.mls_types.specs.declared.welcome.EncryptedGroupSecrets.{EncryptedGroupSecrets}
use Rattle.mls_types.specs.declared.welcome.Welcome.{Welcome}
use Rattle.mls_types.specs.Message.{mls_message}
use Rattle.mls_types.specs.declared.message.MlsMessage.TheVariants as message
use Rattle.mls_suite.specs.Crypto.{Crypto}
use Rattle.mls_model.specs.Welcome.{entries_for}
use Rattle.mls_public_group.specs.MessageLimit.{limited_text}

-- whether each init key is fit
abbrev pub have_fit_keys : Crypto → List (KeyPackage × ℕ) → Bool
have_fit_keys c joiners = list_all (λ (x : KeyPackage × ℕ). c.key_ok x.0.init_key) joiners

-- the Welcome with these entries and this sealed GroupInfo (RFC 9420, 12.4.3.1)
abbrev pub welcome_of : Crypto → List EncryptedGroupSecrets → List ℕ → Welcome
welcome_of c entries encrypted_info =
    record { cipher_suite = c.number; secrets = entries; encrypted_group_info = encrypted_info }

-- the message of a Welcome with this sealed GroupInfo, or the number of the refusal
unfoldable pub message_with : Crypto → List ℕ → (ℕ → List ℕ) → (ℕ → List ℕ) → ℕ →
    List (KeyPackage × ℕ) → Result (List ℕ) ℕ
message_with c encrypted_info secrets rnd n joiners = do
  entries ← entries_for c encrypted_info secrets rnd n joiners
  limited_text (mls_message.spell (message.Welcome (welcome_of c entries encrypted_info)))
