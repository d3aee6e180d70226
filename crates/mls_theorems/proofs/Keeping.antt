-- A good world is kept by what leaves a member's state: its proposals, those that it is given, and drops.
use Rattle.std.proofs.Common.{◌≡◌, ℕ, false, not, List, [], ◌∷◌, ◌++◌, Option, Some, None, Result, Ok, refl, sym, ap, subst, ◌∙◌, ◌⊎◌, inl, inr, slice_get}
use Rattle.std.specs.Str.{bytes_eq}
use Rattle.std.proofs.lemmas.Slice.Eq.{bytes_eq-Decides}
use Rattle.std.proofs.lemmas.Bool.{not-true}
use Rattle.mls_wire.proofs.CheckLaws.{require_ok, then_ok, bind_ok, given_ok}
use Rattle.mls_wire.specs.Checks.{passed}
use Rattle.mls_wire.specs.Laws.{ok_is}
use Rattle.mls_leaf.specs.GroupExtensions.{are_allowed}
use Rattle.mls_leaf.specs.declared.extension.Extension.{Extension}
use Rattle.mls_leaf.specs.declared.proposal.Proposal.{Proposal}
use Rattle.mls_leaf.specs.declared.proposal.Proposal.TheVariants as proposes
use Rattle.mls_suite.specs.Crypto.{Crypto}
use Rattle.mls_tree.specs.Tree.{member_at}
use Rattle.mls_model.specs.declared.event.Reply.{Reply}
use Rattle.mls_model.specs.declared.event.Source.{Source}
use Rattle.mls_model.specs.MemberInvariant.{IsGoodPending, IsGoodIfPending, IsGoodMember}
use Rattle.mls_model.specs.Candidate.{leaf_key_of}
use Rattle.mls_model.specs.WorldCalls.{proposal_answer, propose_add_answer, propose_update_answer, propose_remove_answer, propose_extensions_answer, drop_answer}
use Rattle.mls_model.specs.Headline.{IsPendingOf}
use Rattle.mls_model.specs.Invariant.{IsGoodBy, IsGoodWorld}
use Rattle.mls_model.specs.Journal.{names_in, list_in}
use Rattle.mls_model.specs.Lineage.{IsSameState}
use Rattle.mls_model.specs.Member.{KeptProposal, Pending, Member, kept_under, with_kept, without_pending}
use Rattle.mls_model.specs.Messages.{require_within_limit, reference_of}
use Rattle.mls_model.specs.Propose.{proposal_by, keep_once, make_proposal, propose_add, updated_leaf, propose_update, propose_remove, propose_extensions}
use Rattle.mls_model.specs.JournalState.{Creations}
use Rattle.mls_model.specs.EventRange.{IsSourceInRange}
use Rattle.mls_model.specs.World.{World, Seat, with_member, seat_at, package_of}
use Rattle.mls_theorems.proofs.CommitEntries.{list_at}
use Rattle.mls_theorems.proofs.Proposing.{added_good, updated_good, removed_good, extended_good}
use Rattle.mls_theorems.proofs.UnchangedMembers.{dropped_good}
use Rattle.mls_theorems.proofs.Journals.{same_itself}
use Rattle.mls_theorems.proofs.Changes.{KeepsOn, keeps_same, more_messages, one_message, change_member}
use Rattle.mls_theorems.proofs.Names.{keeps_more, names_stable}
use Rattle.mls_theorems.proofs.Past.{reached_same}
use Rattle.mls_theorems.proofs.Sources.{bytes_within, package_fits}

-- ---- a member in its state

-- a member that keeps its state, with a pending commit of this world or none
pub stays : (c : Crypto) (creations : Creations) (w : World) (k : ℕ) (s : Seat) (n : Member) → IsGoodBy c creations w → slice_get w.seats k ≡ Some s → IsSameState s.member n → KeepsOn s.member n → n.gone ≡ s.member.gone → (n.gone ≡ false → IsGoodMember c n) →
    ((p : Pending) → n.gone ≡ false → n.pending ≡ Some p → IsPendingOf w k (record { member = n; journal = s.journal }) p) → IsGoodBy c creations (with_member w k s n)
stays c creations w k s n g at same keeps gone good pending =
    change_member c creations w k s (record { member = n; journal = s.journal }) g at same.signing (inl same) keeps
    (λ active. reached_same c creations w.commits s.journal.origin s.journal.entries s.member n same (good active) (g.members k s (record { is = at; active = sym gone ∙ active })).reached) pending

-- ---- one more proposal

-- the names of a pending commit are those that they were
names_kept : (c : Crypto) (m : Member) (p : Pending) (x : KeptProposal) → IsGoodPending c m p → names_in (m.kept ++ (x ∷ [])) (list_in p.message) ≡ names_in m.kept (list_in p.message)
names_kept c m p x h =
    let list : list_in p.message ≡ h.commit.proposals = list_at p.message h.said h.commit h.tag h.decodes h.says in
    ap (names_in (m.kept ++ (x ∷ []))) list ∙ names_stable m.kept (x ∷ []) m.keys.leaf h.commit.proposals h.used h.uses ∙ ap (names_in m.kept) (sym list)

pub keeps_one : (c : Crypto) (creations : Creations) (w : World) (k : ℕ) (s : Seat) (x : KeptProposal) → IsGoodBy c creations w → slice_get w.seats k ≡ Some s → s.member.gone ≡ false → IsGoodMember c (with_kept s.member x) → IsGoodBy c creations (with_member w k s (with_kept s.member x))
unfolding with_kept
keeps_one c creations w k s x g at active good =
    stays c creations w k s (with_kept s.member x) g at (record { public = refl; epoch = refl; keys = refl; signing = refl })
    (λ e list names h. keeps_more s.member.kept (x ∷ []) list names h) refl (λ _. good)
    (λ p _ e.
    let q : IsPendingOf w k s p = g.pending k s p (record { is = at; active = active }) e in
    let is : IsGoodPending c s.member p = subst (IsGoodIfPending c s.member) e (g.members k s (record { is = at; active = active })).good.pending in
    record { which = q.which; place = q.place; is = q.is; maker = q.maker; journal = q.journal; commit = q.commit; names = q.names ∙ sym (names_kept c s.member p x is); epoch = q.epoch })

-- nothing changes
pub keeps_none : (c : Crypto) (creations : Creations) (w : World) (k : ℕ) (s : Seat) → IsGoodBy c creations w → slice_get w.seats k ≡ Some s → IsGoodBy c creations (with_member w k s s.member)
keeps_none c creations w k s g at =
    stays c creations w k s s.member g at (same_itself s.member) (keeps_same s.member s.member refl) refl (λ active. (g.members k s (record { is = at; active = active })).good)
    (λ p active e.
    let q : IsPendingOf w k s p = g.pending k s p (record { is = at; active = active }) e in
    record { which = q.which; place = q.place; is = q.is; maker = q.maker; journal = q.journal; commit = q.commit; names = q.names; epoch = q.epoch })

-- ---- a member's own proposals

pub record ProposedDid (m : Member) (x : List ℕ × Member) : Type 0 where
  pub active : m.gone ≡ false
  pub within : require_within_limit x.0 ≡ Ok passed
  pub is : (m ≡ x.1) ⊎ ((k : KeptProposal) × (with_kept m k ≡ x.1))

once_did : (m : Member) (k : KeptProposal) (o : Option KeptProposal) (x : List ℕ × Member) → m.gone ≡ false → require_within_limit k.message ≡ Ok passed → keep_once m k o ≡ Ok x → ProposedDid m x
once_did m k None x active within h = subst (ProposedDid m) (ok_is _ x h) (record { active = active; within = within; is = inr (k, refl) })
once_did m k (Some old) x active within h =
    let r = require_ok 49 (bytes_eq old.message k.message) _ _ h in
    let same : old.message ≡ k.message = (bytes_eq-Decides old.message k.message).0 r.0 in
    subst (ProposedDid m) (ok_is _ x r.1) (record { active = active; within = ap require_within_limit same ∙ within; is = inl refl })

pub proposed_did : (c : Crypto) (m : Member) (said : Proposal) (own_key : Option (List ℕ)) (x : List ℕ × Member) → make_proposal c m said own_key ≡ Ok x → ProposedDid m x
unfolding make_proposal
proposed_did c m said own_key x h =
    let s1 = require_ok _ _ _ _ h in
    let s2 = then_ok _ _ _ s1.1 in
    let s3 = then_ok _ _ _ s2.1 in
    once_did m _ (kept_under m.kept (reference_of (proposal_by c m said))) x (not-true m.gone s1.0) s3.0 s3.1

sent_kept : (c : Crypto) (creations : Creations) (w : World) (k : ℕ) (s : Seat) (x : List ℕ × Member) → IsGoodBy c creations w → slice_get w.seats k ≡ Some s → ProposedDid s.member x → IsGoodMember c x.1 → IsGoodWorld c (proposal_answer w k s x).1
sent_kept c creations w k s x g at did good = (creations, more_messages c creations (with_member w k s x.1) (x.0 ∷ []) (by_case did.is) (one_message x.0 (bytes_within x.0 did.within)))
  where
    by_case : (s.member ≡ x.1) ⊎ ((y : KeptProposal) × (with_kept s.member y ≡ x.1)) → IsGoodBy c creations (with_member w k s x.1)
    by_case (inl e) = subst (λ (n : Member). IsGoodBy c creations (with_member w k s n)) e (keeps_none c creations w k s g at)
    by_case (inr e) = subst (λ (n : Member). IsGoodBy c creations (with_member w k s n)) e.1 (keeps_one c creations w k s e.0 g at did.active (subst (IsGoodMember c) (sym e.1) good))

member_good : (c : Crypto) (creations : Creations) (w : World) (k : ℕ) (s : Seat) → IsGoodBy c creations w → slice_get w.seats k ≡ Some s → s.member.gone ≡ false → IsGoodMember c s.member
member_good c creations w k s g at active = (g.members k s (record { is = at; active = active })).good

abbrev answered : Reply × World → Result (Reply × World) ℕ
answered x = Ok x

pub to_world : (c : Crypto) (x y : Reply × World) → answered y ≡ Ok x → IsGoodWorld c y.1 → IsGoodWorld c x.1
to_world c x y e g = subst (λ (z : Reply × World). IsGoodWorld c z.1) (ok_is y x e) g

pub propose_add_kept : (c : Crypto) (creations : Creations) (w : World) → IsGoodBy c creations w → (k : ℕ) (source : Source) (x : Reply × World) → IsSourceInRange source → propose_add_answer c w k source ≡ Ok x → IsGoodWorld c x.1
unfolding propose_add_answer propose_add
propose_add_kept c creations w g k source x range h =
    let s1 = bind_ok (seat_at w k) _ _ h in
    let s2 = bind_ok (package_of w source) _ _ s1.2 in
    let s3 = bind_ok (propose_add c s1.0.member s2.0) _ _ s2.2 in
    let at : slice_get w.seats k ≡ Some s1.0 = given_ok 90 (slice_get w.seats k) s1.0 s1.1 in
    let did : ProposedDid s1.0.member s3.0 = proposed_did c s1.0.member _ None s3.0 s3.1 in
    let good = added_good c s1.0.member s2.0 s3.0 (member_good c creations w k s1.0 g at did.active) (package_fits w source s2.0 g.messages range s2.1) s3.1 in
    to_world c x (proposal_answer w k s1.0 s3.0) s3.2 (sent_kept c creations w k s1.0 s3.0 g at did good)

pub propose_update_kept : (c : Crypto) (creations : Creations) (w : World) → IsGoodBy c creations w → (k : ℕ) (seed : List ℕ) (x : Reply × World) → propose_update_answer c w k seed ≡ Ok x → IsGoodWorld c x.1
unfolding propose_update_answer propose_update
propose_update_kept c creations w g k seed x h =
    let s1 = bind_ok (seat_at w k) _ _ h in
    let s3 = bind_ok (propose_update c s1.0.member seed) _ _ s1.2 in
    let at : slice_get w.seats k ≡ Some s1.0 = given_ok 90 (slice_get w.seats k) s1.0 s1.1 in
    let t1 = require_ok 40 (not s1.0.member.gone) _ _ s3.1 in
    let t2 = bind_ok (member_at s1.0.member.public.tree s1.0.member.keys.leaf) _ _ t1.1 in
    let did : ProposedDid s1.0.member s3.0 = proposed_did c s1.0.member (proposes.Update (updated_leaf c s1.0.member t2.0 seed)) (Some (leaf_key_of c seed)) s3.0 t2.2 in
    let good = updated_good c s1.0.member seed s3.0 (member_good c creations w k s1.0 g at did.active) s3.1 in
    to_world c x (proposal_answer w k s1.0 s3.0) s3.2 (sent_kept c creations w k s1.0 s3.0 g at did good)

pub propose_remove_kept : (c : Crypto) (creations : Creations) (w : World) → IsGoodBy c creations w → (k leaf : ℕ) (x : Reply × World) → propose_remove_answer c w k leaf ≡ Ok x → IsGoodWorld c x.1
unfolding propose_remove_answer propose_remove
propose_remove_kept c creations w g k leaf x h =
    let s1 = bind_ok (seat_at w k) _ _ h in
    let s3 = bind_ok (propose_remove c s1.0.member leaf) _ _ s1.2 in
    let at : slice_get w.seats k ≡ Some s1.0 = given_ok 90 (slice_get w.seats k) s1.0 s1.1 in
    let did : ProposedDid s1.0.member s3.0 = proposed_did c s1.0.member _ None s3.0 s3.1 in
    let good = removed_good c s1.0.member leaf s3.0 (member_good c creations w k s1.0 g at did.active) s3.1 in
    to_world c x (proposal_answer w k s1.0 s3.0) s3.2 (sent_kept c creations w k s1.0 s3.0 g at did good)

pub propose_extensions_kept : (c : Crypto) (creations : Creations) (w : World) → IsGoodBy c creations w → (k : ℕ) (list : List Extension) (x : Reply × World) → propose_extensions_answer c w k list ≡ Ok x → IsGoodWorld c x.1
unfolding propose_extensions_answer propose_extensions
propose_extensions_kept c creations w g k list x h =
    let s1 = bind_ok (seat_at w k) _ _ h in
    let s2 = require_ok 14 (are_allowed list) _ _ s1.2 in
    let s3 = bind_ok (propose_extensions c s1.0.member list) _ _ s2.1 in
    let at : slice_get w.seats k ≡ Some s1.0 = given_ok 90 (slice_get w.seats k) s1.0 s1.1 in
    let did : ProposedDid s1.0.member s3.0 = proposed_did c s1.0.member _ None s3.0 s3.1 in
    let good = extended_good c s1.0.member list s3.0 (member_good c creations w k s1.0 g at did.active) s2.0 s3.1 in
    to_world c x (proposal_answer w k s1.0 s3.0) s3.2 (sent_kept c creations w k s1.0 s3.0 g at did good)

-- ---- drops

drops : (c : Crypto) (creations : Creations) (w : World) (k : ℕ) (s : Seat) → IsGoodBy c creations w → slice_get w.seats k ≡ Some s → IsGoodBy c creations (with_member w k s (without_pending s.member))
unfolding without_pending
drops c creations w k s g at =
    stays c creations w k s (without_pending s.member) g at (record { public = refl; epoch = refl; keys = refl; signing = refl })
    (keeps_same s.member (without_pending s.member) refl) refl
    (λ active. dropped_good c s.member (member_good c creations w k s g at active)) (λ p _ e. absurd cc)

pub drop_kept : (c : Crypto) (creations : Creations) (w : World) → IsGoodBy c creations w → (k : ℕ) (x : Reply × World) → drop_answer w k ≡ Ok x → IsGoodWorld c x.1
unfolding drop_answer
drop_kept c creations w g k x h =
    let s = bind_ok (seat_at w k) _ _ h in
    to_world c x _ s.2 (creations, drops c creations w k s.0 g (given_ok 90 (slice_get w.seats k) s.0 s.1))
