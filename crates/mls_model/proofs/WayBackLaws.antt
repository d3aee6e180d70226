-- Each of the ways that are listed leads to its verdict.
use Rattle.std.proofs.Common.{◌≡◌, ℕ, true, false, not, List, Option, Some, Result, Ok, Err, refl, ap, sym, ◌∙◌}
use Rattle.std.specs.Str.{bytes_eq}
use Rattle.mls_leaf.specs.declared.proposal.Proposal.{Proposal}
use Rattle.mls_types.specs.declared.commit.Commit.{Commit}
use Rattle.mls_types.specs.declared.public_message.PublicMessage.{PublicMessage}
use Rattle.mls_types.specs.declared.signed.SignedBody.{SignedBody}
use Rattle.mls_suite.specs.Crypto.{Crypto}
use Rattle.mls_model.specs.declared.effect.Effect.{Effect}
use Rattle.mls_model.specs.Member.{Pending, Member}
use Rattle.mls_model.specs.Verdict.{new_proposal, proposal_verdict, enter_epoch_with, enter_epoch, commit_verdict, content_verdict, bytes_verdict, own_pending, verdict}
use Rattle.mls_model.specs.VerdictFindings.{DidPending, reached_epoch}
use Rattle.mls_model.proofs.Receipts.{framing_passes}
use Rattle.mls_model.specs.VerdictCases.{IsOther, IsTaken, IsProposal, IsCommit, Taking.follows_own, Taking.knows, Taking.keeps, Taking.leaves, Taking.follows, SoTaken, Refusing.gone, Refusing.unread, Refusing.no_public, Refusing.unframed, Refusing.unfit, Refusing.last_epoch, Refusing.unknown, Refusing.unsound, Refusing.closed, Refusing.untagged, SoRefused}

-- ---- down to the content

abbrev ok_of : Effect × Member → Result (Effect × Member) ℕ
ok_of x = Ok x

abbrev err_of : ℕ → Result (Effect × Member) ℕ
err_of n = Err n

by_other : (c : Crypto) (m : Member) (bytes : List ℕ) → IsOther m bytes → verdict c m bytes ≡ bytes_verdict c m bytes
unfolding verdict
by_other c m bytes o = let n : not m.gone ≡ true = ap not o.active in rw (n, o.free) refl

by_taken : (c : Crypto) (m : Member) (bytes : List ℕ) (v : PublicMessage) → IsTaken c m bytes v → verdict c m bytes ≡ content_verdict c m v.content bytes v.content.body
unfolding bytes_verdict
by_taken c m bytes v t = by_other c m bytes t.other ∙ (rw (t.decodes, framing_passes c m v bytes t.is_framed) refl)

by_proposal : (c : Crypto) (m : Member) (bytes : List ℕ) (v : PublicMessage) (said : Proposal) → IsProposal c m bytes v said → verdict c m bytes ≡ proposal_verdict c m v.content bytes said
unfolding content_verdict
by_proposal c m bytes v said p = by_taken c m bytes v p.is_taken ∙ ap (λ (b : SignedBody). content_verdict c m v.content bytes b) p.says

by_commit : (c : Crypto) (m : Member) (bytes : List ℕ) (v : PublicMessage) (commit : Commit) (tag : List ℕ) → IsCommit c m bytes v commit tag → verdict c m bytes ≡ commit_verdict c m v.content commit tag
unfolding content_verdict
by_commit c m bytes v commit tag p = by_taken c m bytes v p.is_taken ∙ ap (λ (b : SignedBody). content_verdict c m v.content bytes b) p.says

-- ---- taken

owns : (o : Option Pending) (p : Pending) (bytes : List ℕ) → o ≡ Some p → bytes_eq p.message bytes ≡ true → own_pending o bytes ≡ Some p
owns o p bytes e f = rw (e, f) refl

by_own : (c : Crypto) (m : Member) (bytes : List ℕ) (x : Effect × Member) → m.gone ≡ false → DidPending m bytes x → verdict c m bytes ≡ Ok x
unfolding verdict
by_own c m bytes x g d =
    let n : not m.gone ≡ true = ap not g in
    let o : own_pending m.pending bytes ≡ Some d.pending = owns m.pending d.pending bytes d.is_pending d.is_message in
    rw (n, o) (ap ok_of d.is)

pub so_taken : SoTaken
unfolding proposal_verdict new_proposal commit_verdict enter_epoch enter_epoch_with reached_epoch
so_taken c m bytes x (follows_own g d) = by_own c m bytes x g d
so_taken c m bytes x (knows v said p k) = by_proposal c m bytes v said p ∙ (rw (k.kept) (ap ok_of k.is))
so_taken c m bytes x (keeps v said p k) = by_proposal c m bytes v said p ∙ (rw (k.fresh, k.checks) (ap ok_of k.is))
so_taken c m bytes x (leaves v commit tag used change p d k) = by_commit c m bytes v commit tag p ∙ (rw (d.is_using.below, d.is_using.uses, d.change_is, k.is_named) (ap ok_of k.is))
so_taken c m bytes x (follows v commit tag used change p d k) =
    by_commit c m bytes v commit tag p ∙ (rw (d.is_using.below, d.is_using.uses, d.change_is, k.stays, k.opens, k.confirmed) (ap ok_of k.is))

-- ---- refused

by_gone : (c : Crypto) (m : Member) (bytes : List ℕ) → m.gone ≡ true → verdict c m bytes ≡ Err 40
unfolding verdict
by_gone c m bytes g = let n : not m.gone ≡ false = ap not g in rw n refl

pub so_refused : SoRefused
unfolding bytes_verdict proposal_verdict new_proposal commit_verdict enter_epoch enter_epoch_with reached_epoch
so_refused c m bytes n (gone g e) = by_gone c m bytes g ∙ ap err_of (sym e)
so_refused c m bytes n (unread o e) = by_other c m bytes o ∙ (rw e refl)
so_refused c m bytes n (no_public w o d e f) = by_other c m bytes o ∙ (rw (d, e) (ap err_of (sym f)))
so_refused c m bytes n (unframed v o d e) = by_other c m bytes o ∙ (rw (d, e) refl)
so_refused c m bytes n (unfit v said p f e) = by_proposal c m bytes v said p ∙ (rw (f, e) refl)
so_refused c m bytes n (last_epoch v commit tag p e f) = by_commit c m bytes v commit tag p ∙ (rw e (ap err_of (sym f)))
so_refused c m bytes n (unknown v commit tag p f e) = by_commit c m bytes v commit tag p ∙ (rw (f, e) refl)
so_refused c m bytes n (unsound v commit tag used p d e) = by_commit c m bytes v commit tag p ∙ (rw (d.below, d.uses, e) refl)
so_refused c m bytes n (closed v commit tag used change p d s e) = by_commit c m bytes v commit tag p ∙ (rw (d.is_using.below, d.is_using.uses, d.change_is, s, e) refl)
so_refused c m bytes n (untagged v commit tag used change climb p d s o e f) =
    by_commit c m bytes v commit tag p ∙ (rw (d.is_using.below, d.is_using.uses, d.change_is, s, o, e) (ap err_of (sym f)))
