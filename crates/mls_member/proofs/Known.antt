-- What a proposal does, by its reference.
use Rattle.std.proofs.Common.{◌≡◌, ℕ, true, false, List, Result, Ok, refl, sym, subst}
use Rattle.std.specs.Prelude.{is_some}
use Rattle.mls_leaf.specs.declared.proposal.Proposal.{Proposal}
use Rattle.mls_suite.specs.Crypto.{Crypto}
use Rattle.mls_types.specs.declared.signed.SignedContent.{SignedContent}
use Rattle.mls_model.specs.declared.effect.Effect.{Effect}
use Rattle.mls_model.specs.declared.effect.Effect.TheVariants.{Known}
use Rattle.mls_model.specs.Member.{Member, kept_under}
use Rattle.mls_model.specs.Messages.{sender_leaf, reference_of}
use Rattle.mls_model.specs.Verdict.{proposal_verdict, new_proposal}
use Rattle.mls_wire.specs.Checks.{DoesAs}
use Rattle.mls_types.specs.PublicMessage.{authenticated_content}
use Rattle.mls_types.specs.Reference.{proposal_reference}
use Rattle.mls_types.specs.declared.public_message.WireFormat.TheVariants.{PublicMessage}
use Rattle.mls_member.specs.declared.error.Refusal.{Refusal}
use Rattle.mls_member.specs.Faults.{number_of}

-- a call does this to a member
abbrev Does : Result (Effect × Member) ℕ → Member → Member → Result Effect Refusal → Type 0
Does defined old new result = DoesAs (λ e. e) number_of defined old new result

-- the reference that is taken over a signed content
abbrev taken : SignedContent → List ℕ
taken v = proposal_reference (authenticated_content.spell (record { wire_format = PublicMessage; content = v }))

-- one is kept under its reference
pub known_is : (c : Crypto) (m : Member) (v : SignedContent) (bytes : List ℕ) (made : Proposal) (reference : List ℕ) → reference ≡ taken v → is_some (kept_under m.kept reference) ≡ true → proposal_verdict c m v bytes made ≡ Ok (Known reference, m)
unfolding proposal_verdict reference_of
known_is c m v bytes made reference e known = rw (← e, known) refl

-- and none is
new_is : (c : Crypto) (m : Member) (v : SignedContent) (bytes : List ℕ) (made : Proposal) (reference : List ℕ) (sender : ℕ) → reference ≡ taken v → sender ≡ sender_leaf v.sender → is_some (kept_under m.kept reference) ≡ false → proposal_verdict c m v bytes made ≡ new_proposal c m reference sender bytes made
unfolding proposal_verdict new_proposal reference_of
new_is c m v bytes made reference sender e s unknown = rw (← e, ← s, unknown) refl

pub new_does : (c : Crypto) (m : Member) (v : SignedContent) (bytes : List ℕ) (made mine : Proposal) (reference : List ℕ) (sender : ℕ) (new : Member) (result : Result Effect Refusal) → reference ≡ taken v → sender ≡ sender_leaf v.sender → is_some (kept_under m.kept reference) ≡ false → mine ≡ made
    → Does (new_proposal c m reference sender bytes mine) m new result → Does (proposal_verdict c m v bytes made) m new result
new_does c m v bytes made mine reference sender new result e s unknown same does =
    subst (λ (r : Result (Effect × Member) ℕ). Does r m new result) (sym (new_is c m v bytes made reference sender e s unknown))
    (subst (λ (p : Proposal). Does (new_proposal c m reference sender bytes p) m new result) same does)
