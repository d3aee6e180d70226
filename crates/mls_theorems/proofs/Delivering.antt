-- A good world is kept by whatever is delivered to a member.
use Rattle.std.proofs.Common.{◌≡◌, ℕ, ◌<◌, false, List, ◌∷◌, Some, None, Result, Ok, refl, sym, ap, ap₂, subst, ◌∙◌, ◌⊎◌, inl, inr, slice_get, slice_set, arith}
use Rattle.std.proofs.lemmas.Slice.Eq.{bytes_eq-Decides}
use Rattle.std.proofs.lemmas.Bool.{not-true}
use Rattle.mls_wire.proofs.CheckLaws.{bind_ok, given_ok}
use Rattle.mls_wire.specs.Format.{IsBytes}
use Rattle.mls_wire.specs.Laws.{ok_is}
use Rattle.mls_types.specs.SignedParts.{framed_content_of}
use Rattle.mls_types.specs.declared.commit.Commit.{Commit}
use Rattle.mls_types.specs.declared.content.FramedContent.{FramedContent}
use Rattle.mls_types.specs.declared.public_message.PublicMessage.{PublicMessage}
use Rattle.mls_types.specs.declared.signed.SignedBody.{SignedBody}
use Rattle.mls_types.specs.declared.signed.SignedBody.TheVariants as body_of
use Rattle.mls_suite.specs.Crypto.{Crypto}
use Rattle.mls_treekem_model.specs.Keys.{PrivateKeys}
use Rattle.mls_model.specs.declared.effect.Effect.{Effect}
use Rattle.mls_model.specs.declared.effect.Effect.TheVariants.{Advanced}
use Rattle.mls_model.specs.declared.event.Reply.{Reply}
use Rattle.mls_model.specs.declared.event.Source.{Source}
use Rattle.mls_model.specs.MemberInvariant.{IsGoodPending, IsGoodIfPending, IsGoodMember}
use Rattle.mls_model.specs.WorldCalls.{journal_after, deliver_answer}
use Rattle.mls_model.specs.Commit.{Change, change_of_commit, public_with, next_public}
use Rattle.mls_model.specs.Headline.{IsPendingOf}
use Rattle.mls_model.specs.Invariant.{IsGoodBy, IsGoodWorld}
use Rattle.mls_model.specs.Journal.{Entry, Journal, CommitMade, with_entry, names_in, list_in, entry_of}
use Rattle.mls_model.specs.Lineage.{IsReachedOver, IsReached}
use Rattle.mls_model.specs.Member.{Pending, Member, with_keys, with_epoch, after_removal}
use Rattle.mls_model.specs.PublicState.{PublicState, Used}
use Rattle.mls_model.specs.JournalState.{Creations}
use Rattle.mls_model.specs.EventRange.{IsSourceInRange}
use Rattle.mls_model.specs.Verdict.{own_pending, verdict}
use Rattle.mls_model.specs.VerdictFindings.{kept_of, reached_epoch, HasFollowed, WasRemoved, DidPending}
use Rattle.mls_model.specs.World.{World, Seat, seat_at, bytes_of}
use Rattle.mls_model.proofs.Found.{ContentDid, ReceivedDid, DidOther}
use Rattle.mls_model.proofs.Receipts.{did_receive, did_take}
use Rattle.mls_theorems.proofs.Delivered.{delivered_good}
use Rattle.mls_theorems.proofs.Opened.{body_did}
use Rattle.mls_theorems.proofs.Journals.{same_itself}
use Rattle.mls_theorems.proofs.Changes.{keeps_same, change_member}
use Rattle.mls_theorems.proofs.Homemade.{entry_with}
use Rattle.mls_theorems.proofs.Keeping.{keeps_one, keeps_none, to_world}
use Rattle.mls_theorems.proofs.Lists.{none_there}
use Rattle.mls_theorems.proofs.Sources.{source_bytes}

-- ---- the next epoch

abbrev seat_with : Member → Journal → Seat
seat_with m j = record { member = m; journal = j }

reached_next : (c : Crypto) (creations : Creations) (made : List CommitMade) (j : Journal) (m n : Member) (e : Entry) → IsReached c creations made j.origin j.entries m → IsGoodMember c n → IsReachedOver c made j m e n → IsReached c creations made j.origin (e ∷ j.entries) n
unfolding IsReached
reached_next c creations made j m n e past good steps = (m, past, good, steps)

-- a member that followed a commit
advances : (c : Crypto) (creations : Creations) (w : World) (k : ℕ) (s : Seat) (n : Member) (e : Entry) → IsGoodBy c creations w → slice_get w.seats k ≡ Some s → s.member.gone ≡ false → s.member.signing ≡ n.signing → s.member.public.context.epoch < n.public.context.epoch →
    n.pending ≡ None → IsGoodMember c n → IsReachedOver c w.commits s.journal s.member e n → IsGoodBy c creations (record w { seats = slice_set w.seats k (seat_with n (with_entry s.journal e)) })
advances c creations w k s n e g at active signing later free good steps =
    change_member c creations w k s (seat_with n (with_entry s.journal e)) g at signing (inr later) (λ same. absurd (omega (arith, later, same)))
    (λ _. reached_next c creations w.commits s.journal s.member n e (g.members k s (record { is = at; active = active })).reached good steps) (λ p _ h. absurd (none_there n.pending p free h))

-- what is new of it
fresh : (m : Member) (public : PublicState) (epoch : List ℕ) (keys : PrivateKeys) → let n : Member = with_epoch m public epoch keys in (m.signing ≡ n.signing) × (n.pending ≡ None) × (m.public.context.epoch < public.context.epoch → m.public.context.epoch < n.public.context.epoch)
unfolding with_epoch
fresh m public epoch keys = (refl, refl, λ l. l)

-- ---- it was removed

removes : (c : Crypto) (creations : Creations) (w : World) (k : ℕ) (s : Seat) → IsGoodBy c creations w → slice_get w.seats k ≡ Some s → IsGoodBy c creations (record w { seats = slice_set w.seats k (seat_with (after_removal s.member) s.journal) })
unfolding after_removal
removes c creations w k s g at =
    change_member c creations w k s (seat_with (after_removal s.member) s.journal) g at refl (inl (record { public = refl; epoch = refl; keys = refl; signing = refl }))
    (keeps_same s.member (after_removal s.member) refl) (λ h. absurd cc) (λ p h e. absurd cc)

-- ---- what was delivered

-- the world after it
abbrev world_by : World → ℕ → Seat → List ℕ → Effect × Member → World
world_by w k s bytes x = record w { seats = slice_set w.seats k (seat_with x.1 (journal_after s bytes x.0)) }

abbrev answered : Effect × Member → Result (Effect × Member) ℕ
answered x = Ok x

next_epoch : (c : Crypto) (p q : PublicState) (i : ℕ) (used : List Used) (commit : Commit) (said : FramedContent) (signature tag : List ℕ) → next_public c p i used commit said signature tag ≡ Ok q → p.context.epoch < q.context.epoch
unfolding next_public public_with
next_epoch c p q i used commit said signature tag h =
    let s = bind_ok _ _ _ h in
    let d = (body_did c p i used commit said signature s.0 s.1).epoch_is in
    let e = ap (λ (r : PublicState). r.context.epoch) (ok_is _ q s.2) in
    omega (arith, d, e)

-- its pending commit
own_steps : (c : Crypto) (w : World) (k : ℕ) (s : Seat) (bytes : List ℕ) (p : Pending) → IsPendingOf w k s p → p.message ≡ bytes → verdict c s.member bytes ≡ Ok (Advanced p.public.context.epoch, with_epoch s.member p.public p.epoch_secret p.keys) →
    IsReachedOver c w.commits s.journal s.member (entry_of s.member bytes) (with_epoch s.member p.public p.epoch_secret p.keys)
unfolding entry_of with_epoch
own_steps c w k s bytes p q same h = inr (inl (record {
  which = q.which;
  here = record { place = q.place; is = q.is; journal = q.journal; entry = ap₂ entry_with (q.commit ∙ same) (q.names ∙ ap (λ (b : List ℕ). names_in s.member.kept (list_in b)) same) };
  reaches = q.epoch;
  epoch = p.public.context.epoch;
  after = with_epoch s.member p.public p.epoch_secret p.keys;
  is = h;
  entry = refl;
  same = same_itself (with_epoch s.member p.public p.epoch_secret p.keys);
}))

follows_own : (c : Crypto) (creations : Creations) (w : World) (k : ℕ) (s : Seat) (bytes : List ℕ) (p : Pending) → IsGoodBy c creations w → slice_get w.seats k ≡ Some s → s.member.gone ≡ false → s.member.pending ≡ Some p → p.message ≡ bytes →
    verdict c s.member bytes ≡ Ok (Advanced p.public.context.epoch, with_epoch s.member p.public p.epoch_secret p.keys) → IsGoodMember c (with_epoch s.member p.public p.epoch_secret p.keys) →
    IsGoodBy c creations (world_by w k s bytes (Advanced p.public.context.epoch, with_epoch s.member p.public p.epoch_secret p.keys))
follows_own c creations w k s bytes p g at active is same h good =
    let a = g.members k s (record { is = at; active = active }) in
    let q : IsGoodPending c s.member p = subst (IsGoodIfPending c s.member) is a.good.pending in
    let f = fresh s.member p.public p.epoch_secret p.keys in
    advances c creations w k s (with_epoch s.member p.public p.epoch_secret p.keys) (entry_of s.member bytes) g at active f.0
    (f.2 (next_epoch c s.member.public p.public s.member.keys.leaf q.used q.commit (framed_content_of q.said.content) q.said.content.signature q.tag q.next)) f.1 good
    (own_steps c w k s bytes p (g.pending k s p (record { is = at; active = active }) is) same h)

-- another's commit
other_steps : (c : Crypto) (w : World) (s : Seat) (bytes : List ℕ) (epoch : ℕ) (n : Member) → own_pending s.member.pending bytes ≡ None → verdict c s.member bytes ≡ Ok (Advanced epoch, n) → IsReachedOver c w.commits s.journal s.member (entry_of s.member bytes) n
unfolding entry_of
other_steps c w s bytes epoch n free h = inl (record { free = free; epoch = epoch; after = n; is = h; entry = refl; same = same_itself n })

follows_other : (c : Crypto) (creations : Creations) (w : World) (k : ℕ) (s : Seat) (bytes : List ℕ) (epoch : ℕ) (public : PublicState) (secret : List ℕ) (keys : PrivateKeys) → IsGoodBy c creations w → slice_get w.seats k ≡ Some s → s.member.gone ≡ false →
    own_pending s.member.pending bytes ≡ None → verdict c s.member bytes ≡ Ok (Advanced epoch, with_epoch s.member public secret keys) → s.member.public.context.epoch < public.context.epoch → IsGoodMember c (with_epoch s.member public secret keys) →
    IsGoodBy c creations (world_by w k s bytes (Advanced epoch, with_epoch s.member public secret keys))
follows_other c creations w k s bytes epoch public secret keys g at active free h later good =
    let f = fresh s.member public secret keys in
    advances c creations w k s (with_epoch s.member public secret keys) (entry_of s.member bytes) g at active f.0 (f.2 later) f.1 good (other_steps c w s bytes epoch (with_epoch s.member public secret keys) free h)

change_epoch : (c : Crypto) (p : PublicState) (i : ℕ) (used : List Used) (commit : Commit) (said : FramedContent) (signature tag : List ℕ) (change : Change) → change_of_commit c p i used commit said signature ≡ Ok change → p.context.epoch < (public_with change tag).context.epoch
unfolding public_with
change_epoch c p i used commit said signature tag change h = let d = (body_did c p i used commit said signature change h).epoch_is in omega (arith, d)

content_kept : (c : Crypto) (creations : Creations) (w : World) (k : ℕ) (s : Seat) (bytes : List ℕ) (v : PublicMessage) (b : SignedBody) (x : Effect × Member) → IsGoodBy c creations w → slice_get w.seats k ≡ Some s → s.member.gone ≡ false → own_pending s.member.pending bytes ≡ None →
    verdict c s.member bytes ≡ Ok x → IsGoodMember c x.1 → ContentDid c s.member v.content bytes b x → IsGoodBy c creations (world_by w k s bytes x)
content_kept c creations w k s bytes v (body_of.Application text) x g at active free h good d = absurd d
content_kept c creations w k s bytes v (body_of.Proposal said) x g at active free h good (inl d) =
    subst (λ (y : Effect × Member). IsGoodBy c creations (world_by w k s bytes y)) d.is (keeps_none c creations w k s g at)
content_kept c creations w k s bytes v (body_of.Proposal said) x g at active free h good (inr d) =
    subst (λ (y : Effect × Member). IsGoodBy c creations (world_by w k s bytes y)) d.is
    (keeps_one c creations w k s (kept_of v.content bytes said) g at active (subst (IsGoodMember c) (ap (λ (y : Effect × Member). y.1) (sym d.is)) good))
content_kept c creations w k s bytes v (body_of.Commit commit tag) x g at active free h good d = by_case d.did
  where
    by_case : WasRemoved s.member d.used x ⊎ HasFollowed c s.member v.content commit tag d.used d.change x → IsGoodBy c creations (world_by w k s bytes x)
    by_case (inl r) = subst (λ (y : Effect × Member). IsGoodBy c creations (world_by w k s bytes y)) r.is (removes c creations w k s g at)
    by_case (inr f) =
        let n : Member = with_epoch s.member (public_with d.change tag) (reached_epoch s.member d.change f.climb) (with_keys s.member.keys f.climb.keys) in
        subst (λ (y : Effect × Member). IsGoodBy c creations (world_by w k s bytes y)) f.is
        (follows_other c creations w k s bytes d.change.context.epoch (public_with d.change tag) (reached_epoch s.member d.change f.climb) (with_keys s.member.keys f.climb.keys) g at active free (h ∙ ap answered (sym f.is))
        (change_epoch c s.member.public _ d.used commit (framed_content_of v.content) v.content.signature tag d.change d.change_is) (subst (IsGoodMember c) (ap (λ (y : Effect × Member). y.1) (sym f.is)) good))

delivers : (c : Crypto) (creations : Creations) (w : World) (k : ℕ) (s : Seat) (bytes : List ℕ) (x : Effect × Member) → IsGoodBy c creations w → slice_get w.seats k ≡ Some s → IsBytes bytes → verdict c s.member bytes ≡ Ok x → IsGoodBy c creations (world_by w k s bytes x)
delivers c creations w k s bytes x g at are h = by_case (did_take c s.member bytes x h).did
  where
    active : s.member.gone ≡ false
    active = not-true s.member.gone (did_take c s.member bytes x h).active

    good : IsGoodMember c x.1
    good = delivered_good c s.member bytes x (g.members k s (record { is = at; active = active })).good are h

    by_case : DidPending s.member bytes x ⊎ DidOther c s.member bytes x → IsGoodBy c creations (world_by w k s bytes x)
    by_case (inl d) =
        subst (λ (y : Effect × Member). IsGoodBy c creations (world_by w k s bytes y)) d.is
        (follows_own c creations w k s bytes d.pending g at active d.is_pending ((bytes_eq-Decides _ _).0 d.is_message) (h ∙ ap answered (sym d.is)) (subst (IsGoodMember c) (ap (λ (y : Effect × Member). y.1) (sym d.is)) good))
    by_case (inr d) =
        let r : ReceivedDid c s.member bytes x = did_receive c s.member bytes x d.is in
        content_kept c creations w k s bytes r.said r.said.content.body x g at active d.free h good r.did

pub deliver_kept : (c : Crypto) (creations : Creations) (w : World) → IsGoodBy c creations w → (k : ℕ) (source : Source) (x : Reply × World) → IsSourceInRange source → deliver_answer c w k source ≡ Ok x → IsGoodWorld c x.1
unfolding deliver_answer
deliver_kept c creations w g k source x range h =
    let s1 = bind_ok (seat_at w k) _ _ h in
    let s2 = bind_ok (bytes_of w source) _ _ s1.2 in
    let s3 = bind_ok (verdict c s1.0.member s2.0) _ _ s2.2 in
    to_world c x _ s3.2 (creations, delivers c creations w k s1.0 s2.0 s3.0 g (given_ok 90 (slice_get w.seats k) s1.0 s1.1) (source_bytes w source s2.0 g.messages range s2.1) s3.1)
