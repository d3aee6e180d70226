-- Each verdict comes about in one of the ways that are listed.
use Rattle.std.proofs.Common.{◌≡◌, ℕ, ◌^◌, ◌-◌, nat_lt, Bool, true, false, not, if◌then◌else◌, List, Option, Some, None, is_some, Result, Ok, Err, refl, ◌⊎◌, inl, inr, ap, ◌∙◌}
use Rattle.std.specs.Str.{bytes_eq}
use Rattle.std.proofs.lemmas.Bool.{not-true}
use Rattle.mls_wire.specs.Checks.{Passed, passed, require, require_some, ◌>>◌}
use Rattle.mls_wire.specs.Reading.{◌>>=◌}
use Rattle.mls_leaf.specs.declared.proposal.Proposal.{Proposal}
use Rattle.mls_types.specs.SignedParts.{framed_content_of}
use Rattle.mls_types.specs.declared.commit.Commit.{Commit}
use Rattle.mls_types.specs.declared.message.MlsMessage.{MlsMessage}
use Rattle.mls_types.specs.declared.message.MlsMessage.TheVariants as message
use Rattle.mls_types.specs.declared.public_message.PublicMessage.{PublicMessage}
use Rattle.mls_types.specs.declared.signed.SignedBody.{SignedBody}
use Rattle.mls_types.specs.declared.signed.SignedBody.TheVariants as body_of
use Rattle.mls_suite.specs.Crypto.{Crypto}
use Rattle.mls_tree_model.specs.Sets.{has}
use Rattle.mls_treekem_model.specs.Make.{Climb}
use Rattle.mls_schedule.specs.Epoch.{confirmation_tag}
use Rattle.mls_model.specs.declared.effect.Effect.{Effect}
use Rattle.mls_model.specs.declared.effect.Effect.TheVariants.{Removed}
use Rattle.mls_model.specs.PublicState.{Used}
use Rattle.mls_model.specs.Proposals.{proposal_checks, removed_leaves}
use Rattle.mls_model.specs.Commit.{Change, change_of_commit}
use Rattle.mls_model.specs.Member.{Pending, Member, kept_under, find_proposals, after_removal, keys_after_edits}
use Rattle.mls_model.specs.Messages.{decode_message, public_in, sender_leaf, is_handshake, reference_of}
use Rattle.mls_model.specs.Verdict.{framing_checks, new_proposal, proposal_verdict, open_path_secret, enter_epoch_with, enter_epoch, commit_verdict, content_verdict, bytes_verdict, own_pending, pending_or_received, verdict}
use Rattle.mls_model.specs.VerdictFindings.{WasRemoved, HasFollowed, DidPending, reached_epoch}
use Rattle.mls_model.proofs.Found.{ProposalDid, ContentDid, DidOther}
use Rattle.mls_model.proofs.Receipts.{framing_did, did_receive, did_take}
use Rattle.mls_model.specs.VerdictCases.{IsOther, IsTaken, IsProposal, IsCommit, IsUsing, IsChanging, Taking, Taking.follows_own, Taking.knows, Taking.keeps, Taking.leaves, Taking.follows, TakenSo, Refusing, Refusing.gone, Refusing.unread, Refusing.no_public, Refusing.unframed, Refusing.unfit, Refusing.last_epoch, Refusing.unknown, Refusing.unsound, Refusing.closed, Refusing.untagged, RefusedSo}

-- ---- taken

taken_proposal : (c : Crypto) (m : Member) (bytes : List ℕ) (x : Effect × Member) (v : PublicMessage) (said : Proposal) → IsProposal c m bytes v said → ProposalDid c m v.content bytes said x → Taking c m bytes x
taken_proposal c m bytes x v said p (inl k) = knows v said p k
taken_proposal c m bytes x v said p (inr k) = keeps v said p k

taken_change : (c : Crypto) (m : Member) (bytes : List ℕ) (x : Effect × Member) (v : PublicMessage) (commit : Commit) (tag : List ℕ) (used : List Used) (change : Change) → IsCommit c m bytes v commit tag → IsChanging c m v.content commit used change →
    WasRemoved m used x ⊎ HasFollowed c m v.content commit tag used change x → Taking c m bytes x
taken_change c m bytes x v commit tag used change p d (inl k) = leaves v commit tag used change p d k
taken_change c m bytes x v commit tag used change p d (inr k) = follows v commit tag used change p d k

taken_content : (c : Crypto) (m : Member) (bytes : List ℕ) (x : Effect × Member) (v : PublicMessage) (b : SignedBody) → v.content.body ≡ b → IsTaken c m bytes v → ContentDid c m v.content bytes b x → Taking c m bytes x
taken_content c m bytes x v (body_of.Application text) e t d = absurd d
taken_content c m bytes x v (body_of.Proposal said) e t d = taken_proposal c m bytes x v said (record { is_taken = t; says = e }) d
taken_content c m bytes x v (body_of.Commit commit tag) e t d =
    taken_change c m bytes x v commit tag d.used d.change (record { is_taken = t; says = e })
    (record { is_using = record { below = d.below; uses = d.uses }; change_is = d.change_is }) d.did

taken_by : (c : Crypto) (m : Member) (bytes : List ℕ) (x : Effect × Member) → m.gone ≡ false → DidPending m bytes x ⊎ DidOther c m bytes x → Taking c m bytes x
taken_by c m bytes x g (inl p) = follows_own g p
taken_by c m bytes x g (inr o) =
    let r = did_receive c m bytes x o.is in
    taken_content c m bytes x r.said r.said.content.body refl
    (record { other = record { active = g; free = o.free }; decodes = r.decodes; is_framed = r.is_framed }) r.did

pub taken_so : TakenSo
taken_so c m bytes x h = let d = did_take c m bytes x h in taken_by c m bytes x (not-true m.gone d.active) d.did

-- ---- refused

refused_tag : (c : Crypto) (m : Member) (bytes : List ℕ) (n : ℕ) (v : PublicMessage) (commit : Commit) (tag : List ℕ) (used : List Used) (change : Change) (climb : Climb) → IsCommit c m bytes v commit tag → IsChanging c m v.content commit used change →
    has (removed_leaves used) m.keys.leaf ≡ false → open_path_secret c m (sender_leaf v.content.sender) change (keys_after_edits m commit.proposals change.edits.tree) commit.path ≡ Ok climb →
    (b : Bool) (x : Effect × Member) → bytes_eq tag (confirmation_tag (reached_epoch m change climb) change.context.confirmed_transcript_hash) ≡ b → (require 65 b >> Ok x) ≡ Err n → Refusing c m bytes n
refused_tag c m bytes n v commit tag used change climb p d stays opens true x e h = absurd cc
refused_tag c m bytes n v commit tag used change climb p d stays opens false x e h = untagged v commit tag used change climb p d stays opens e cc

refused_climb : (c : Crypto) (m : Member) (bytes : List ℕ) (n : ℕ) (v : PublicMessage) (commit : Commit) (tag : List ℕ) (used : List Used) (change : Change) → IsCommit c m bytes v commit tag → IsChanging c m v.content commit used change →
    has (removed_leaves used) m.keys.leaf ≡ false →
    (r : Result Climb ℕ) → open_path_secret c m (sender_leaf v.content.sender) change (keys_after_edits m commit.proposals change.edits.tree) commit.path ≡ r → (r >>= λ climb. enter_epoch m change climb tag) ≡ Err n → Refusing c m bytes n
unfolding enter_epoch enter_epoch_with reached_epoch
refused_climb c m bytes n v commit tag used change p d stays (Ok climb) e h = refused_tag c m bytes n v commit tag used change climb p d stays e (bytes_eq tag (confirmation_tag (reached_epoch m change climb) change.context.confirmed_transcript_hash)) _ refl h
refused_climb c m bytes n v commit tag used change p d stays (Err k) e h = let same : k ≡ n = cc in closed v commit tag used change p d stays (e ∙ ap (λ (i : ℕ). Err i) same)

refused_way : (c : Crypto) (m : Member) (bytes : List ℕ) (n : ℕ) (v : PublicMessage) (commit : Commit) (tag : List ℕ) (used : List Used) (change : Change) → IsCommit c m bytes v commit tag → IsChanging c m v.content commit used change →
    (b : Bool) → has (removed_leaves used) m.keys.leaf ≡ b →
    (if b then Ok (Removed, after_removal m) else (open_path_secret c m (sender_leaf v.content.sender) change (keys_after_edits m commit.proposals change.edits.tree) commit.path >>= λ climb. enter_epoch m change climb tag)) ≡ Err n → Refusing c m bytes n
refused_way c m bytes n v commit tag used change p d true e h = absurd cc
refused_way c m bytes n v commit tag used change p d false e h = refused_climb c m bytes n v commit tag used change p d e _ refl h

refused_body : (c : Crypto) (m : Member) (bytes : List ℕ) (n : ℕ) (v : PublicMessage) (commit : Commit) (tag : List ℕ) (used : List Used) → IsCommit c m bytes v commit tag → IsUsing m v.content commit used →
    (r : Result Change ℕ) → change_of_commit c m.public (sender_leaf v.content.sender) used commit (framed_content_of v.content) v.content.signature ≡ r →
    (r >>= λ change. if has (removed_leaves used) m.keys.leaf then Ok (Removed, after_removal m) else (open_path_secret c m (sender_leaf v.content.sender) change (keys_after_edits m commit.proposals change.edits.tree) commit.path >>= λ climb. enter_epoch m change climb tag)) ≡ Err n → Refusing c m bytes n
refused_body c m bytes n v commit tag used p d (Ok change) e h = refused_way c m bytes n v commit tag used change p (record { is_using = d; change_is = e }) (has (removed_leaves used) m.keys.leaf) refl h
refused_body c m bytes n v commit tag used p d (Err k) e h = let same : k ≡ n = cc in unsound v commit tag used p d (e ∙ ap (λ (i : ℕ). Err i) same)

refused_commit : (c : Crypto) (m : Member) (bytes : List ℕ) (n : ℕ) (v : PublicMessage) (commit : Commit) (tag : List ℕ) → IsCommit c m bytes v commit tag → (b : Bool) → nat_lt m.public.context.epoch (2 ^ 64 - 1) ≡ b → (r : Result (List Used) ℕ) → find_proposals m.kept (sender_leaf v.content.sender) commit.proposals ≡ r →
    (require 66 b >> (r >>= λ used. change_of_commit c m.public (sender_leaf v.content.sender) used commit (framed_content_of v.content) v.content.signature >>= λ change.
    if has (removed_leaves used) m.keys.leaf then Ok (Removed, after_removal m) else (open_path_secret c m (sender_leaf v.content.sender) change (keys_after_edits m commit.proposals change.edits.tree) commit.path >>= λ climb. enter_epoch m change climb tag))) ≡ Err n → Refusing c m bytes n
refused_commit c m bytes n v commit tag p false f r e h = last_epoch v commit tag p f cc
refused_commit c m bytes n v commit tag p true f (Ok used) e h = refused_body c m bytes n v commit tag used p (record { below = f; uses = e }) _ refl h
refused_commit c m bytes n v commit tag p true f (Err k) e h = let same : k ≡ n = cc in unknown v commit tag p f (e ∙ ap (λ (i : ℕ). Err i) same)

refused_proposal : (c : Crypto) (m : Member) (bytes : List ℕ) (n : ℕ) (v : PublicMessage) (said : Proposal) → IsProposal c m bytes v said → (b : Bool) → is_some (kept_under m.kept (reference_of v.content)) ≡ b → (x y : Effect × Member) (r : Result Passed ℕ) →
    proposal_checks c m.public (sender_leaf v.content.sender) said ≡ r → (if b then Ok x else (r >> Ok y)) ≡ Err n → Refusing c m bytes n
refused_proposal c m bytes n v said p true f x y r e h = absurd cc
refused_proposal c m bytes n v said p false f x y (Ok passed) e h = absurd cc
refused_proposal c m bytes n v said p false f x y (Err k) e h = let same : k ≡ n = cc in unfit v said p f (e ∙ ap (λ (i : ℕ). Err i) same)

no_application : (b : SignedBody) (text : _) → b ≡ body_of.Application text → is_handshake b ≡ true → ⊥
no_application b text e h = let never = ap is_handshake e in cc

refused_content : (c : Crypto) (m : Member) (bytes : List ℕ) (n : ℕ) (v : PublicMessage) (b : SignedBody) → v.content.body ≡ b → IsTaken c m bytes v → content_verdict c m v.content bytes b ≡ Err n → Refusing c m bytes n
unfolding content_verdict proposal_verdict new_proposal commit_verdict
refused_content c m bytes n v (body_of.Application text) e t h = absurd (no_application v.content.body text e t.is_framed.handshake)
refused_content c m bytes n v (body_of.Proposal said) e t h = refused_proposal c m bytes n v said (record { is_taken = t; says = e }) _ refl _ _ _ refl h
refused_content c m bytes n v (body_of.Commit commit tag) e t h = refused_commit c m bytes n v commit tag (record { is_taken = t; says = e }) _ refl _ refl h

refused_framing : (c : Crypto) (m : Member) (bytes : List ℕ) (n : ℕ) (v : PublicMessage) → IsOther m bytes → decode_message bytes ≡ Ok (message.PublicMessage v) → (r : Result Passed ℕ) → framing_checks c m v bytes ≡ r →
    (r >> content_verdict c m v.content bytes v.content.body) ≡ Err n → Refusing c m bytes n
refused_framing c m bytes n v o d (Ok passed) e h = refused_content c m bytes n v v.content.body refl (record { other = o; decodes = d; is_framed = framing_did c m v bytes e }) h
refused_framing c m bytes n v o d (Err k) e h = let same : k ≡ n = cc in unframed v o d (e ∙ ap (λ (i : ℕ). Err i) same)

refused_message : (c : Crypto) (m : Member) (bytes : List ℕ) (n : ℕ) → IsOther m bytes → (r : Result MlsMessage ℕ) → decode_message bytes ≡ r →
    (r >>= λ whole. require_some 41 (public_in whole) >>= λ v. framing_checks c m v bytes >> content_verdict c m v.content bytes v.content.body) ≡ Err n → Refusing c m bytes n
refused_message c m bytes n o (Ok (message.PublicMessage v)) e h = refused_framing c m bytes n v o e _ refl h
refused_message c m bytes n o (Ok (message.Welcome w)) e h = no_public (message.Welcome w) o e refl cc
refused_message c m bytes n o (Ok (message.GroupInfo w)) e h = no_public (message.GroupInfo w) o e refl cc
refused_message c m bytes n o (Ok (message.KeyPackage w)) e h = no_public (message.KeyPackage w) o e refl cc
refused_message c m bytes n o (Err k) e h = let same : k ≡ n = cc in unread o (e ∙ ap (λ (i : ℕ). Err i) same)

refused_other : (c : Crypto) (m : Member) (bytes : List ℕ) (n : ℕ) → m.gone ≡ false → (o : Option Pending) → own_pending m.pending bytes ≡ o → pending_or_received c m bytes o ≡ Err n → Refusing c m bytes n
unfolding bytes_verdict
refused_other c m bytes n g (Some p) e h = absurd cc
refused_other c m bytes n g None e h = refused_message c m bytes n (record { active = g; free = e }) (decode_message bytes) refl h

refused_by : (c : Crypto) (m : Member) (bytes : List ℕ) (n : ℕ) (b : Bool) → m.gone ≡ b → (require 40 (not b) >> pending_or_received c m bytes (own_pending m.pending bytes)) ≡ Err n → Refusing c m bytes n
refused_by c m bytes n true g h = gone g cc
refused_by c m bytes n false g h = refused_other c m bytes n g (own_pending m.pending bytes) refl h

pub refused_so : RefusedSo
unfolding verdict
refused_so c m bytes n h = refused_by c m bytes n m.gone refl h
