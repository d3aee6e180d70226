-- The key schedule (RFC 9420, 8) as functions on lists of bytes. A context is the bytes of a GroupContext, and `epoch`
-- stands for an epoch secret.
use Rattle.std.specs.Prelude.{ℕ, List, [], ◌∷◌, replicate, codes}
use Rattle.sha2.specs.Sha256.{sha256}
use Rattle.mls_kdf.specs.Kdf.{hmac, extract, expand_with_label, derive_secret}

-- ---- what leads to an epoch (RFC 9420, 8)

-- joiner_secret: from the last epoch's init secret, the commit secret and the new context (RFC 9420, 8)
unfoldable pub joiner_secret : List ℕ → List ℕ → List ℕ → List ℕ
joiner_secret init commit_secret context = expand_with_label (extract init commit_secret) (codes "joiner") context 32

-- what the joiner secret and the psk_secret give, which is zeros where no pre-shared key is used (RFC 9420, 8 and 8.4)
unfoldable pub intermediate_secret : List ℕ → List ℕ
intermediate_secret joiner = extract joiner (replicate 32 0)

-- welcome_secret: from the joiner secret (RFC 9420, 8)
unfoldable pub welcome_secret : List ℕ → List ℕ
welcome_secret joiner = derive_secret (intermediate_secret joiner) (codes "welcome")

-- epoch_secret: from the joiner secret and the new context (RFC 9420, 8)
unfoldable pub epoch_secret : List ℕ → List ℕ → List ℕ
epoch_secret joiner context = expand_with_label (intermediate_secret joiner) (codes "epoch") context 32

-- the epoch secret of the next epoch, from init secret, commit secret and new context (RFC 9420, 8)
unfoldable pub next_epoch_secret : List ℕ → List ℕ → List ℕ → List ℕ
next_epoch_secret init commit_secret context = epoch_secret (joiner_secret init commit_secret context) context

-- ---- what a Welcome's GroupInfo is sealed under (RFC 9420, 12.4.3.1)

-- welcome_key: from the joiner secret (RFC 9420, 12.4.3.1)
unfoldable pub welcome_key : List ℕ → List ℕ
welcome_key joiner = expand_with_label (welcome_secret joiner) (codes "key") [] 16

-- welcome_nonce: from the joiner secret (RFC 9420, 12.4.3.1)
unfoldable pub welcome_nonce : List ℕ → List ℕ
welcome_nonce joiner = expand_with_label (welcome_secret joiner) (codes "nonce") [] 12

-- ---- what an epoch secret gives: the nine secrets (RFC 9420, 8)

-- sender_data_secret: what the keys of sender data are made of (RFC 9420, 8)
unfoldable pub sender_data_secret : List ℕ → List ℕ
sender_data_secret epoch = derive_secret epoch (codes "sender data")

-- encryption_secret: the root of the secret tree (RFC 9420, 8)
unfoldable pub encryption_secret : List ℕ → List ℕ
encryption_secret epoch = derive_secret epoch (codes "encryption")

-- exporter_secret: what exported secrets are made of (RFC 9420, 8)
unfoldable pub exporter_secret : List ℕ → List ℕ
exporter_secret epoch = derive_secret epoch (codes "exporter")

-- external_secret: what the keys of external commits are made of (RFC 9420, 8)
unfoldable pub external_secret : List ℕ → List ℕ
external_secret epoch = derive_secret epoch (codes "external")

-- confirmation_key: the key of confirmation tags (RFC 9420, 8)
unfoldable pub confirmation_key : List ℕ → List ℕ
confirmation_key epoch = derive_secret epoch (codes "confirm")

-- membership_key: the key of membership tags (RFC 9420, 8)
unfoldable pub membership_key : List ℕ → List ℕ
membership_key epoch = derive_secret epoch (codes "membership")

-- resumption_psk: what a group is resumed with (RFC 9420, 8)
unfoldable pub resumption_psk : List ℕ → List ℕ
resumption_psk epoch = derive_secret epoch (codes "resumption")

-- epoch_authenticator: what members compare to see that they agree (RFC 9420, 8)
unfoldable pub epoch_authenticator : List ℕ → List ℕ
epoch_authenticator epoch = derive_secret epoch (codes "authentication")

-- init_secret: what the next epoch is made from (RFC 9420, 8)
unfoldable pub init_secret : List ℕ → List ℕ
init_secret epoch = derive_secret epoch (codes "init")

-- the nine secrets that are made of an epoch secret (RFC 9420, 8)
pub record NineSecrets : Type 0 where
  pub sender_data : List ℕ
  pub encryption : List ℕ
  pub exporter : List ℕ
  pub external : List ℕ
  pub confirmation : List ℕ
  pub membership : List ℕ
  pub resumption : List ℕ
  pub authenticator : List ℕ
  pub init : List ℕ

-- the nine secrets of an epoch secret (RFC 9420, 8)
abbrev pub nine_secrets : List ℕ → NineSecrets
nine_secrets epoch = record {
  sender_data = sender_data_secret epoch;
  encryption = encryption_secret epoch;
  exporter = exporter_secret epoch;
  external = external_secret epoch;
  confirmation = confirmation_key epoch;
  membership = membership_key epoch;
  resumption = resumption_psk epoch;
  authenticator = epoch_authenticator epoch;
  init = init_secret epoch;
}

-- the ten secrets of an epoch, in the order in which the standard lists them: its own and the nine (RFC 9420, 8)
unfoldable pub ten_secrets : List ℕ → List (List ℕ)
ten_secrets epoch =
    epoch
    ∷ sender_data_secret epoch
    ∷ encryption_secret epoch
    ∷ exporter_secret epoch
    ∷ external_secret epoch
    ∷ confirmation_key epoch
    ∷ membership_key epoch
    ∷ resumption_psk epoch
    ∷ epoch_authenticator epoch
    ∷ init_secret epoch
    ∷ []

-- ---- what is made of them

-- confirmation_tag: by the epoch secret, over a confirmed transcript hash (RFC 9420, 6.1)
unfoldable pub confirmation_tag : List ℕ → List ℕ → List ℕ
confirmation_tag epoch confirmed = hmac (confirmation_key epoch) confirmed

-- membership_tag: by the epoch secret, over the AuthenticatedContentTBM of a message (RFC 9420, 6.2)
unfoldable pub membership_tag : List ℕ → List ℕ → List ℕ
membership_tag epoch said = hmac (membership_key epoch) said

-- an exported secret of n bytes, under a label and a context (RFC 9420, 8.5)
unfoldable pub export_secret : List ℕ → List ℕ → List ℕ → ℕ → List ℕ
export_secret epoch label context n = expand_with_label (derive_secret (exporter_secret epoch) label) (codes "exported") (sha256 context) n
