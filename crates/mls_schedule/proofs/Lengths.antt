-- How long the secrets and hashes of an epoch are.
use Rattle.std.specs.Prelude.{◌≡◌, ℕ, List, length}
use Rattle.mls_kdf.specs.Lengths.{length-sha256, length-hmac}
use Rattle.mls_kdf.proofs.Lengths.{length-expand_with_label, length-derive_secret}
use Rattle.mls_schedule.specs.Epoch.{joiner_secret, welcome_secret, epoch_secret, next_epoch_secret, welcome_key, welcome_nonce, sender_data_secret, encryption_secret, exporter_secret, external_secret, confirmation_key, membership_key, resumption_psk, epoch_authenticator, init_secret, confirmation_tag, membership_tag, export_secret}
use Rattle.mls_schedule.specs.Transcript.{confirmed_hash, interim_hash}

pub length-joiner_secret : (init commit_secret context : List ℕ) → length (joiner_secret init commit_secret context) ≡ 32
unfolding joiner_secret
length-joiner_secret init commit_secret context = length-expand_with_label _ _ context 32

pub length-welcome_secret : (joiner : List ℕ) → length (welcome_secret joiner) ≡ 32
unfolding welcome_secret
length-welcome_secret joiner = length-derive_secret _ _

pub length-epoch_secret : (joiner context : List ℕ) → length (epoch_secret joiner context) ≡ 32
unfolding epoch_secret
length-epoch_secret joiner context = length-expand_with_label _ _ context 32

pub length-next_epoch_secret : (init commit_secret context : List ℕ) → length (next_epoch_secret init commit_secret context) ≡ 32
unfolding next_epoch_secret
length-next_epoch_secret init commit_secret context = length-epoch_secret _ context

pub length-welcome_key : (joiner : List ℕ) → length (welcome_key joiner) ≡ 16
unfolding welcome_key
length-welcome_key joiner = length-expand_with_label _ _ _ 16

pub length-welcome_nonce : (joiner : List ℕ) → length (welcome_nonce joiner) ≡ 12
unfolding welcome_nonce
length-welcome_nonce joiner = length-expand_with_label _ _ _ 12

pub length-sender_data_secret : (epoch : List ℕ) → length (sender_data_secret epoch) ≡ 32
unfolding sender_data_secret
length-sender_data_secret epoch = length-derive_secret epoch _

pub length-encryption_secret : (epoch : List ℕ) → length (encryption_secret epoch) ≡ 32
unfolding encryption_secret
length-encryption_secret epoch = length-derive_secret epoch _

pub length-exporter_secret : (epoch : List ℕ) → length (exporter_secret epoch) ≡ 32
unfolding exporter_secret
length-exporter_secret epoch = length-derive_secret epoch _

pub length-external_secret : (epoch : List ℕ) → length (external_secret epoch) ≡ 32
unfolding external_secret
length-external_secret epoch = length-derive_secret epoch _

pub length-confirmation_key : (epoch : List ℕ) → length (confirmation_key epoch) ≡ 32
unfolding confirmation_key
length-confirmation_key epoch = length-derive_secret epoch _

pub length-membership_key : (epoch : List ℕ) → length (membership_key epoch) ≡ 32
unfolding membership_key
length-membership_key epoch = length-derive_secret epoch _

pub length-resumption_psk : (epoch : List ℕ) → length (resumption_psk epoch) ≡ 32
unfolding resumption_psk
length-resumption_psk epoch = length-derive_secret epoch _

pub length-epoch_authenticator : (epoch : List ℕ) → length (epoch_authenticator epoch) ≡ 32
unfolding epoch_authenticator
length-epoch_authenticator epoch = length-derive_secret epoch _

pub length-init_secret : (epoch : List ℕ) → length (init_secret epoch) ≡ 32
unfolding init_secret
length-init_secret epoch = length-derive_secret epoch _

pub length-confirmation_tag : (epoch confirmed : List ℕ) → length (confirmation_tag epoch confirmed) ≡ 32
unfolding confirmation_tag
length-confirmation_tag epoch confirmed = length-hmac _ confirmed

pub length-membership_tag : (epoch said : List ℕ) → length (membership_tag epoch said) ≡ 32
unfolding membership_tag
length-membership_tag epoch said = length-hmac _ said

pub length-exported : (epoch label context : List ℕ) (n : ℕ) → length (export_secret epoch label context n) ≡ n
unfolding export_secret
length-exported epoch label context n = length-expand_with_label _ _ _ n

pub length-confirmed_hash : (interim : List ℕ) (wire_format : ℕ) (content signature : List ℕ) → length (confirmed_hash interim wire_format content signature) ≡ 32
unfolding confirmed_hash
length-confirmed_hash interim wire_format content signature = length-sha256 _

pub length-interim_hash : (confirmed tag : List ℕ) → length (interim_hash confirmed tag) ≡ 32
unfolding interim_hash
length-interim_hash confirmed tag = length-sha256 _
