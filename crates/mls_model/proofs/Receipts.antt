-- What a verdict that takes bytes found in them, check by check.
use Rattle.std.proofs.Common.{◌≡◌, ℕ, Bool, true, false, cond, List, Option, Some, None, Result, Ok, refl, ◌⊎◌, inl, inr, ap, sym, ◌∙◌}
use Rattle.std.specs.Str.{bytes_eq}
use Rattle.mls_wire.specs.Laws.{ok_is}
use Rattle.mls_wire.specs.CheckLaws.{required}
use Rattle.mls_wire.proofs.CheckLaws.{bind_ok, then_ok, require_ok, given_ok}
use Rattle.mls_leaf.specs.declared.proposal.Proposal.{Proposal}
use Rattle.mls_types.specs.declared.commit.Commit.{Commit}
use Rattle.mls_types.specs.declared.message.MlsMessage.{MlsMessage}
use Rattle.mls_types.specs.declared.message.MlsMessage.TheVariants as message
use Rattle.mls_types.specs.declared.public_message.PublicMessage.{PublicMessage}
use Rattle.mls_types.specs.declared.signed.SignedBody.{SignedBody}
use Rattle.mls_types.specs.declared.signed.SignedBody.TheVariants as body_of
use Rattle.mls_types.specs.declared.signed.SignedContent.{SignedContent}
use Rattle.mls_suite.specs.Crypto.{Crypto}
use Rattle.mls_model.specs.declared.effect.Effect.{Effect}
use Rattle.mls_model.specs.Member.{Pending, Member}
use Rattle.mls_model.specs.Messages.{public_in}
use Rattle.mls_model.specs.Verdict.{framing_checks, new_proposal, proposal_verdict, enter_epoch_with, enter_epoch, commit_verdict, content_verdict, bytes_verdict, own_pending, pending_or_received, verdict}
use Rattle.mls_model.specs.VerdictFindings.{WasRemoved, reached_epoch, HasFollowed, DidPending}
use Rattle.mls_model.proofs.Found.{ProposalDid, CommitDid, ContentDid, ReceivedDid, DidOther, VerdictDid}
use Rattle.mls_model.specs.FramingLaws.{FramingDid, FramingPasses}

-- which way a test went
pub either_way : {A P Q : Type 0} (b : Bool) (x y : Result A ℕ) (z : A) → cond b x y ≡ Ok z → (b ≡ true → x ≡ Ok z → P) → (b ≡ false → y ≡ Ok z → Q) → P ⊎ Q
either_way true x y z e f g = inl (f refl e)
either_way false x y z e f g = inr (g refl e)

pub framing_did : FramingDid
unfolding framing_checks
framing_did c m v bytes h =
    let s1 = require_ok _ _ _ _ h in
    let s2 = require_ok _ _ _ _ s1.1 in
    let s3 = bind_ok _ _ _ s2.1 in
    let s4 = require_ok _ _ _ _ s3.2 in
    let s5 = require_ok _ _ _ _ s4.1 in
    let s6 = require_ok _ _ _ _ s5.1 in
    record {
      group = s1.0;
      epoch = s2.0;
      leaf = s3.0;
      sender = given_ok _ _ _ s3.1;
      handshake = s4.0;
      tag = s5.0;
      signed = s6.0;
      other = required _ _ _ s6.1;
    }

pub framing_passes : FramingPasses
unfolding framing_checks
framing_passes c m v bytes f = rw (f.group, f.epoch, f.sender, f.handshake, f.tag, f.signed, f.other) refl

pub proposal_did : (c : Crypto) (m : Member) (v : SignedContent) (bytes : List ℕ) (said : Proposal) (x : Effect × Member) → proposal_verdict c m v bytes said ≡ Ok x → ProposalDid c m v bytes said x
unfolding proposal_verdict new_proposal
proposal_did c m v bytes said x h = either_way _ _ _ _ h
    (λ e f. record { kept = e; is = ok_is _ _ f })
    (λ e f. let t = then_ok _ _ _ f in record { fresh = e; checks = t.0; is = ok_is _ _ t.1 })

pub commit_did : (c : Crypto) (m : Member) (v : SignedContent) (commit : Commit) (tag : List ℕ) (x : Effect × Member) → commit_verdict c m v commit tag ≡ Ok x → CommitDid c m v commit tag x
unfolding commit_verdict enter_epoch enter_epoch_with reached_epoch
commit_did c m v commit tag x h =
    let s1 = require_ok _ _ _ _ h in
    let s2 = bind_ok _ _ _ s1.1 in
    let s3 = bind_ok _ _ _ s2.2 in
    let did : WasRemoved m s2.0 x ⊎ HasFollowed c m v commit tag s2.0 s3.0 x = either_way _ _ _ _ s3.2
    (λ e f. record { is_named = e; is = ok_is _ _ f })
    (λ e f. let t = bind_ok _ _ _ f in let u = require_ok _ _ _ _ t.2 in record { stays = e; climb = t.0; opens = t.1; confirmed = u.0; is = ok_is _ _ u.1 }) in
    record { below = s1.0; used = s2.0; uses = s2.1; change = s3.0; change_is = s3.1; did = did }

content_did : (c : Crypto) (m : Member) (v : SignedContent) (bytes : List ℕ) (b : SignedBody) (x : Effect × Member) → content_verdict c m v bytes b ≡ Ok x → ContentDid c m v bytes b x
unfolding content_verdict
content_did c m v bytes (body_of.Application text) x h = absurd cc
content_did c m v bytes (body_of.Proposal said) x h = proposal_did c m v bytes said x h
content_did c m v bytes (body_of.Commit commit tag) x h = commit_did c m v commit tag x h

abbrev found : MlsMessage → Result MlsMessage ℕ
found w = Ok w

pub public_is : (w : MlsMessage) (v : PublicMessage) → public_in w ≡ Some v → message.PublicMessage v ≡ w
public_is (message.PublicMessage u) v e = cc
public_is (message.Welcome u) v e = absurd cc
public_is (message.GroupInfo u) v e = absurd cc
public_is (message.KeyPackage u) v e = absurd cc

abbrev pub DidReceive : Type 0
DidReceive = (c : Crypto) (m : Member) (bytes : List ℕ) (x : Effect × Member) → bytes_verdict c m bytes ≡ Ok x → ReceivedDid c m bytes x

pub did_receive : DidReceive
unfolding bytes_verdict
did_receive c m bytes x h =
    let s1 = bind_ok _ _ _ h in
    let s2 = bind_ok _ _ _ s1.2 in
    let s3 = then_ok _ _ _ s2.2 in
    let whole : message.PublicMessage s2.0 ≡ s1.0 = public_is s1.0 s2.0 (given_ok _ _ _ s2.1) in
    record {
      said = s2.0;
      decodes = s1.1 ∙ ap (λ (w : MlsMessage). found w) (sym whole);
      is_framed = framing_did c m s2.0 bytes s3.0;
      did = content_did c m s2.0.content bytes s2.0.content.body x s3.1;
    }

pending_at : (c : Crypto) (m : Member) (bytes : List ℕ) (x : Effect × Member) (p : Pending) (b : Bool) → m.pending ≡ Some p → bytes_eq p.message bytes ≡ b →
    pending_or_received c m bytes (own_pending (Some p) bytes) ≡ Ok x → DidPending m bytes x ⊎ DidOther c m bytes x
pending_at c m bytes x p true e f h = inl (record { pending = p; is_pending = e; is_message = f; is = ok_is _ _ (rw f at h) })
pending_at c m bytes x p false e f h = inr (record { free = rw (e, f) refl; is = rw f at h })

pending_by : (c : Crypto) (m : Member) (bytes : List ℕ) (x : Effect × Member) (o : Option Pending) → m.pending ≡ o → pending_or_received c m bytes (own_pending o bytes) ≡ Ok x → DidPending m bytes x ⊎ DidOther c m bytes x
pending_by c m bytes x None e h = inr (record { free = rw e refl; is = h })
pending_by c m bytes x (Some p) e h = pending_at c m bytes x p (bytes_eq p.message bytes) e refl h

abbrev pub DidTake : Type 0
DidTake = (c : Crypto) (m : Member) (bytes : List ℕ) (x : Effect × Member) → verdict c m bytes ≡ Ok x → VerdictDid c m bytes x

pub did_take : DidTake
unfolding verdict
did_take c m bytes x h = let s = require_ok _ _ _ _ h in record { active = s.0; did = pending_by c m bytes x m.pending refl s.1 }
