-- Opening the parts of a message, step by step.
use Rattle.std.proofs.Common.{◌≡◌, ℕ, ◌<◌, ◌^◌, List, length, refl, sym, subst}
use Rattle.mls_wire.specs.declared.WireError.TheVariants as wire
use Rattle.mls_leaf.specs.declared.error.LeafError.{LeafError}
use Rattle.mls_leaf.specs.declared.error.LeafError.TheVariants.{Wire, BadTag, UnsupportedCredential, UnsupportedProposal, NotRising, ExtensionNotAllowed}
use Rattle.mls_leaf.specs.Faults.{Refuses, number_of}
use Rattle.mls_private_message.specs.declared.private_message.PrivateMessage.{PrivateMessage}
use Rattle.mls_private_message.specs.PrivateMessage.{private_fields, private_message, PrivateContentAadFits}

-- what has a spelling is refused for want of memory alone
pub only_memory : (P : Type 0) (e : LeafError) → P → Refuses P e → number_of e ≡ 1
only_memory P (Wire wire.OutOfMemory) p r = refl
only_memory P (Wire wire.Truncated) p r = absurd r
only_memory P (Wire wire.Trailing) p r = absurd r
only_memory P (Wire wire.BadLength) p r = absurd r
only_memory P (Wire wire.NotMinimal) p r = absurd r
only_memory P (Wire wire.TooLong) p r = absurd (r p)
only_memory P BadTag p r = absurd r
only_memory P UnsupportedCredential p r = absurd r
only_memory P UnsupportedProposal p r = absurd r
only_memory P NotRising p r = absurd r
only_memory P ExtensionNotAllowed p r = absurd r

-- what is authenticated beside a message that has a spelling is refused for want of memory alone
pub no_long_group : (m : PrivateMessage) → private_message.Fits m → (group_id : List ℕ) → group_id ≡ m.group_id
    → (e : LeafError) → Refuses (length group_id < 2 ^ 30) e → number_of e ≡ 1
unfolding private_message private_fields
no_long_group m fits group_id is e r = only_memory (length group_id < 2 ^ 30) e (subst (λ (s : List ℕ). length s < 2 ^ 30) (sym is) fits.0) r

pub no_long_vector : (m : PrivateMessage) → private_message.Fits m → (group_id authenticated_data : List ℕ) → group_id ≡ m.group_id → authenticated_data ≡ m.authenticated_data
    → (e : LeafError) → Refuses (PrivateContentAadFits group_id authenticated_data) e → number_of e ≡ 1
unfolding private_message private_fields
no_long_vector m fits group_id authenticated_data is also e r =
    let first = subst (λ (s : List ℕ). length s < 2 ^ 30) (sym is) fits.0 in
    let second = subst (λ (s : List ℕ). length s < 2 ^ 30) (sym also) fits.1.1.0 in
    only_memory (PrivateContentAadFits group_id authenticated_data) e (first, second) r
