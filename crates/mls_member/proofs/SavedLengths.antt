-- How long the parts of a saved member are.
use Rattle.std.proofs.Common.{ℕ, ◌+◌, ◌<◌, List, [], ◌∷◌, ◌++◌, length, Option, Some, None, subst, ◌∙◌, ap, arith, length-append}
use Rattle.std.specs.Int.{w8, w16, w32}
use Rattle.std.specs.List.{flat_map, AllByRecursion}
use Rattle.mls_wire.specs.Combine.{optional, byte_string}
use Rattle.mls_wire.specs.Reading.{header, uint, opaque}
use Rattle.mls_leaf.specs.Proposal.{proposal as proposal_format}
use Rattle.mls_saved.specs.State.{saved_state}
use Rattle.mls_saved.specs.Kept.{saved_proposal}
use Rattle.mls_saved.specs.Member.{standing, saved_pending, saved_member}
use Rattle.mls_saved.specs.declared.member.SavedMember.{SavedMember}
use Rattle.mls_saved.specs.declared.member.SavedPending.{SavedPending}
use Rattle.mls_saved.specs.declared.proposal.SavedProposal.{SavedProposal}
use Rattle.mls_public_group.specs.Short.{IsBelow}
use Rattle.mls_member.specs.Saved.{AreSavedBelow, IsBelowIfPending}

-- the spelling of the kept proposals
abbrev kept_text : SavedMember → List ℕ
kept_text v = flat_map saved_proposal.spell v.kept

-- the lengths of its parts
lengths : (n : ℕ) (v : SavedMember) → IsBelow n saved_member v → length (saved_state.spell v.state) + (length (kept_text v) + length ((optional saved_pending).spell v.pending)) < n
unfolding saved_member
lengths n v is =
    let a : List ℕ = uint w16 1 in
    let b : List ℕ = standing.spell v.standing in
    let s : List ℕ = saved_state.spell v.state in
    let g : List ℕ = opaque v.signing in
    let k : List ℕ = opaque (kept_text v) in
    let p : List ℕ = (optional saved_pending).spell v.pending in
    let whole : length a + (length b + (length s + (length g + (length k + length p)))) < n =
    subst (λ (m : ℕ). m < n) (length-append a (b ++ (s ++ (g ++ (k ++ p)))) ∙ ap (λ (m : ℕ). length a + m) (length-append b (s ++ (g ++ (k ++ p))) ∙ ap (λ (m : ℕ). length b + m) (length-append s (g ++ (k ++ p)) ∙ ap (λ (m : ℕ). length s + m) (length-append g (k ++ p) ∙ ap (λ (m : ℕ). length g + m) (length-append k p))))) is.below in
    omega (arith, length-append (header (length (kept_text v))) (kept_text v))

-- the state
pub state_below : (n : ℕ) (v : SavedMember) → IsBelow n saved_member v → IsBelow n saved_state v.state
unfolding saved_member
state_below n v is = record { fits = is.fits.1.0; below = omega (arith, lengths n v is) }

-- the kept proposals
proposal_below : (n : ℕ) (k : SavedProposal) → saved_proposal.Fits k → length (saved_proposal.spell k) < n → IsBelow n proposal_format k.proposal
unfolding saved_proposal
proposal_below n k fits lt =
    let a : List ℕ = opaque k.reference in
    let b : List ℕ = opaque k.message in
    let p : List ℕ = proposal_format.spell k.proposal in
    let r : List ℕ = uint w32 k.sender ++ (optional byte_string).spell k.own_key in
    let whole : length a + (length b + (length p + length r)) < n =
    subst (λ (m : ℕ). m < n) (length-append a (b ++ (p ++ r)) ∙ ap (λ (m : ℕ). length a + m) (length-append b (p ++ r) ∙ ap (λ (m : ℕ). length b + m) (length-append p r))) lt in
    record { fits = fits.1.1.0; below = omega arith }

each_below : (n : ℕ) (ks : List SavedProposal) → AllByRecursion saved_proposal.Fits ks → length (flat_map saved_proposal.spell ks) < n → AreSavedBelow n ks
each_below n [] fits lt = tt
each_below n (k ∷ ks) fits lt =
    let two = length-append (saved_proposal.spell k) (flat_map saved_proposal.spell ks) in
    (proposal_below n k fits.0 (omega (arith, two)), each_below n ks fits.1 (omega (arith, two)))

pub kept_below : (n : ℕ) (v : SavedMember) → IsBelow n saved_member v → AreSavedBelow n v.kept
unfolding saved_member
kept_below n v is = each_below n v.kept is.fits.1.1.1.0.0 (omega (arith, lengths n v is))

-- the pending commit
if_below : (n : ℕ) (o : Option SavedPending) → (optional saved_pending).Fits o → length ((optional saved_pending).spell o) < n → IsBelowIfPending n o
unfolding saved_pending
if_below n None fits lt = tt
if_below n (Some p) fits lt =
    let s : List ℕ = saved_state.spell p.state in
    record { fits = fits.1.1; below = omega (arith, length-append (uint w8 1) (opaque p.message ++ s), length-append (opaque p.message) s) }

pub pending_below : (n : ℕ) (v : SavedMember) → IsBelow n saved_member v → IsBelowIfPending n v.pending
unfolding saved_member
pending_below n v is = if_below n v.pending is.fits.1.1.1.1 (omega (arith, lengths n v is))
