-- What is decoded is what the definitions say.
use Rattle.std.proofs.Common.{◌≡◌, ◌≢◌, ℕ, List, Result, Ok, Err, refl}
use Rattle.mls_wire.specs.declared.WireError.TheVariants as wire
use Rattle.mls_wire.specs.Whole.{whole}
use Rattle.mls_leaf.specs.Faults.{Fails, Refuses, number_of}
use Rattle.mls_leaf.specs.Limits.{input_limit}
use Rattle.mls_leaf.specs.declared.error.LeafError.{LeafError}
use Rattle.mls_leaf.specs.declared.error.LeafError.TheVariants.{Wire, BadTag, UnsupportedCredential, UnsupportedProposal, NotRising, ExtensionNotAllowed}
use Rattle.mls_types.specs.Message.{mls_message}
use Rattle.mls_types.specs.declared.message.MlsMessage.{MlsMessage}
use Rattle.mls_model.specs.Messages.{decode_message}

-- memory aside, a reading that failed has the number of its fault
pub fault_of : {A : Type 0} (e : LeafError) (r : Result A ℕ) → Fails e r → number_of e ≢ 1 → r ≡ Err (number_of e)
fault_of (Wire wire.OutOfMemory) r h ne = absurd (ne refl)
fault_of (Wire wire.Truncated) r h ne = h
fault_of (Wire wire.Trailing) r h ne = h
fault_of (Wire wire.BadLength) r h ne = h
fault_of (Wire wire.NotMinimal) r h ne = h
fault_of (Wire wire.TooLong) r h ne = h
fault_of BadTag r h ne = h
fault_of UnsupportedCredential r h ne = h
fault_of UnsupportedProposal r h ne = h
fault_of NotRising r h ne = h
fault_of ExtensionNotAllowed r h ne = h

pub not_decoded : (bytes : List ℕ) (e : LeafError) → Fails e (whole mls_message input_limit bytes) → number_of e ≢ 1 → decode_message bytes ≡ Err (number_of e)
unfolding decode_message
not_decoded bytes e h ne = fault_of e (whole mls_message input_limit bytes) h ne

pub decoded : (bytes : List ℕ) (m : MlsMessage) → whole mls_message input_limit bytes ≡ Ok m → decode_message bytes ≡ Ok m
unfolding decode_message
decoded bytes m e = e

-- memory aside, what has no spelling of an input's length is refused with 6
pub unsaved : (P : Type 0) (e : LeafError) → Refuses P e → number_of e ≢ 1 → (number_of e ≡ 6) × (P → ⊥)
unsaved P (Wire wire.OutOfMemory) h ne = absurd (ne refl)
unsaved P (Wire wire.TooLong) h ne = (refl, h)
unsaved P (Wire wire.Truncated) h ne = absurd h
unsaved P (Wire wire.Trailing) h ne = absurd h
unsaved P (Wire wire.BadLength) h ne = absurd h
unsaved P (Wire wire.NotMinimal) h ne = absurd h
unsaved P BadTag h ne = absurd h
unsaved P UnsupportedCredential h ne = absurd h
unsaved P UnsupportedProposal h ne = absurd h
unsaved P NotRising h ne = absurd h
unsaved P ExtensionNotAllowed h ne = absurd h
