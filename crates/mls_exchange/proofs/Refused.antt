-- What calls refuse as the definitions do.
use Rattle.std.proofs.Common.{◌≡◌, ◌≢◌, ℕ, ◌<◌, ◌≤◌, ◌^◌, inl, inr, List, length, Result, Err, refl, sym, ap, ◌∙◌, arith}
use Rattle.std.proofs.lemmas.Bool.{cases_lt}
use Rattle.mls_wire.specs.declared.WireError.TheVariants as wire
use Rattle.mls_leaf.specs.declared.error.LeafError.{LeafError}
use Rattle.mls_leaf.specs.declared.error.LeafError.TheVariants.{Wire, BadTag, UnsupportedCredential, UnsupportedProposal, NotRising, ExtensionNotAllowed}
use Rattle.mls_leaf.specs.Faults.{Refuses, number_of}
use Rattle.mls_leaf.specs.Limits.{input_limit}
use Rattle.mls_private_message.specs.declared.private_message.PrivateMessage.{PrivateMessage}
use Rattle.mls_private_message.specs.PrivateContent.{private_content, PrivateContentFits}
use Rattle.mls_private_message.specs.PrivateMessage.{private_message}
use Rattle.mls_private_message.specs.Signing.{private_content_tbs}
use Rattle.mls_suite.specs.Crypto.{Crypto}
use Rattle.mls_secret_tree.specs.declared.secrets.MessageKey.{MessageKey}
use Rattle.mls_private_message.specs.declared.sender_data.SenderData.{SenderData}
use Rattle.mls_private_message.specs.PrivateMessage.{PrivateContentAadFits}
use Rattle.mls_private_message.specs.Sealing.{seal_sender_data, seal_content}
use Rattle.mls_private_message.specs.Laws.{sealed_message}
use Rattle.mls_exchange.specs.State.{State}
use Rattle.mls_exchange.specs.Sealing.{message_under}
use Rattle.mls_exchange.specs.declared.said.Said.{Said}
use Rattle.mls_exchange.specs.Said.{AreVectors, said_by}
use Rattle.mls_exchange.specs.Contents.{signed_text, within_limit}
use Rattle.mls_exchange.proofs.Texts.{past_limit, signed_long}
use Rattle.mls_exchange.proofs.Spelled.{are_short, content_fits, vectors_fit, message_fits}

pub record IsTooLong (P : Type 0) (e : LeafError) : Type 0 where
  pub lacks : P → ⊥
  pub number : 6 ≡ number_of e

-- memory aside, what has no spelling is refused as too long
pub too_long : (P : Type 0) (e : LeafError) → Refuses P e → number_of e ≢ 1 → IsTooLong P e
too_long P (Wire wire.OutOfMemory) r ne = absurd (ne refl)
too_long P (Wire wire.Truncated) r ne = absurd r
too_long P (Wire wire.Trailing) r ne = absurd r
too_long P (Wire wire.BadLength) r ne = absurd r
too_long P (Wire wire.NotMinimal) r ne = absurd r
too_long P (Wire wire.TooLong) r ne = record { lacks = r; number = refl }
too_long P BadTag r ne = absurd r
too_long P UnsupportedCredential r ne = absurd r
too_long P UnsupportedProposal r ne = absurd r
too_long P NotRising r ne = absurd r
too_long P ExtensionNotAllowed r ne = absurd r

pub text_refused : (said : Said) (context : List ℕ) (e : LeafError) → Refuses (AreVectors said) e → number_of e ≢ 1
    → signed_text (said_by said) context ≡ Err (number_of e)
text_refused said context e r ne =
    let t = too_long (AreVectors said) e r ne in
    let text : List ℕ = private_content_tbs (said_by said) context in
    let le : 2 ^ 30 ≤ length text = elim (cases_lt (length text) (2 ^ 30)) [
      | inl lt ↦
          (let a = are_short said.group_id.now said.epoch said.leaf said.authenticated_data.now said.application_data.now context lt in
          absurd (t.lacks (a.group, a.added, a.said)))
      | inr le ↦ le
    ] in
    signed_long (said_by said) context le ∙ ap (λ (n : ℕ). let err : ℕ → Result (List ℕ) ℕ = λ k. Err k in err n) t.number

pub content_refused : (application_data signature : List ℕ) (padding : ℕ) (e : LeafError) → Refuses (PrivateContentFits application_data signature) e → number_of e ≢ 1
    → within_limit (private_content application_data signature padding) ≡ Err (number_of e)
content_refused d s n e r ne =
    let t = too_long (PrivateContentFits d s) e r ne in
    let text : List ℕ = private_content d s n in
    let lt : input_limit < length text = elim (cases_lt input_limit (length text)) [
      | inl lt ↦ lt
      | inr le ↦ absurd (t.lacks (content_fits d s n (omega (arith, le))))
    ] in
    past_limit text lt ∙ ap (λ (n : ℕ). let err : ℕ → Result (List ℕ) ℕ = λ k. Err k in err n) t.number

pub message_refused : (m : PrivateMessage) (e : LeafError) → m.epoch < 2 ^ 64 → Refuses (private_message.Fits m) e → number_of e ≢ 1
    → within_limit (private_message.spell m) ≡ Err (number_of e)
message_refused m e low r ne =
    let t = too_long (private_message.Fits m) e r ne in
    let text : List ℕ = private_message.spell m in
    let lt : input_limit < length text = elim (cases_lt input_limit (length text)) [
      | inl lt ↦ lt
      | inr le ↦ absurd (t.lacks (message_fits m low (omega (arith, le))))
    ] in
    past_limit text lt ∙ ap (λ (n : ℕ). let err : ℕ → Result (List ℕ) ℕ = λ k. Err k in err n) t.number

pub aad_refused : (c : Crypto) (s : State) (key : MessageKey) (sender : SenderData) (a content : List ℕ) (e : LeafError)
    → Refuses (PrivateContentAadFits s.group_id a) e → number_of e ≢ 1 → message_under c s key sender a content ≡ Err (number_of e)
unfolding message_under
aad_refused c s key sender a content e r ne =
    let t = too_long (PrivateContentAadFits s.group_id a) e r ne in
    let m : PrivateMessage = sealed_message c s.sender_data_secret key sender s.group_id s.epoch a content in
    let text : List ℕ = private_message.spell m in
    let lt : input_limit < length text = elim (cases_lt input_limit (length text)) [
      | inl lt ↦ lt
      | inr le ↦ (let v = vectors_fit m (omega (arith, le)) in absurd (t.lacks (v.group, v.added)))
    ] in
    past_limit text lt ∙ ap (λ (n : ℕ). let err : ℕ → Result (List ℕ) ℕ = λ k. Err k in err n) t.number

-- the message of parts that were sealed
abbrev pub parts_of : State → List ℕ → List ℕ → List ℕ → List ℕ → PrivateMessage
parts_of s group added sealed ciphertext =
    record { group_id = group; epoch = s.epoch; authenticated_data = added; encrypted_sender_data = sealed; ciphertext = ciphertext }

pub message_is : (c : Crypto) (s : State) (key : MessageKey) (sender : SenderData) (a content group added sealed ciphertext : List ℕ)
    → group ≡ s.group_id → added ≡ a → sealed ≡ seal_sender_data c s.sender_data_secret s.group_id s.epoch ciphertext sender
    → ciphertext ≡ seal_content c key sender.reuse_guard s.group_id s.epoch a content
    → parts_of s group added sealed ciphertext ≡ sealed_message c s.sender_data_secret key sender s.group_id s.epoch a content
message_is c s key sender a content group added sealed ciphertext e f h i = rw (e, f, h, i) refl

pub under_is : (c : Crypto) (s : State) (key : MessageKey) (sender : SenderData) (a content : List ℕ) (m : PrivateMessage) (bytes : List ℕ)
    → m ≡ sealed_message c s.sender_data_secret key sender s.group_id s.epoch a content → bytes ≡ private_message.spell m
    → within_limit bytes ≡ message_under c s key sender a content
unfolding message_under
under_is c s key sender a content m bytes e f = ap within_limit (f ∙ ap private_message.spell e)

pub not_encoded : (c : Crypto) (s : State) (key : MessageKey) (sender : SenderData) (a content : List ℕ) (m : PrivateMessage) (e : LeafError) → m.epoch < 2 ^ 64
    → m ≡ sealed_message c s.sender_data_secret key sender s.group_id s.epoch a content → Refuses (private_message.Fits m) e → number_of e ≢ 1
    → message_under c s key sender a content ≡ Err (number_of e)
not_encoded c s key sender a content m e low is r ne = sym (under_is c s key sender a content m (private_message.spell m) is refl) ∙ message_refused m e low r ne
