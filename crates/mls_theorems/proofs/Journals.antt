-- Public agreement: the public state is a function of the journal, and members with one journal have one epoch secret or
-- are twins.
use Rattle.std.proofs.Common.{◌≡◌, ℕ, Bool, not, List, [], ◌∷◌, Option, Some, None, Result, Ok, refl, sym, ap, subst, ◌∙◌, ◌⊎◌, inl, inr}
use Rattle.std.proofs.lemmas.Slice.Eq.{bytes_eq-Decides}
use Rattle.mls_wire.specs.Laws.{ok_is}
use Rattle.mls_leaf.specs.declared.proposal.Proposal.{Proposal}
use Rattle.mls_types.specs.SignedParts.{framed_content_of}
use Rattle.mls_types.specs.declared.commit.ProposalOrRef.{ProposalOrRef}
use Rattle.mls_types.specs.declared.message.MlsMessage.TheVariants as message
use Rattle.mls_suite.specs.Crypto.{Crypto}
use Rattle.mls_tree_model.specs.Term.{Term}
use Rattle.mls_treekem_model.specs.Keys.{PrivateKeys}
use Rattle.mls_schedule.specs.Transcript.{interim_hash}
use Rattle.mls_schedule.specs.Epoch.{confirmation_tag}
use Rattle.mls_schedule.specs.Laws.{AreOne}
use Rattle.mls_schedule.proofs.LawsLemmas.{one_or_twins}
use Rattle.mls_schedule.specs.Twins.{Twins}
use Rattle.mls_model.specs.declared.effect.Effect.{Effect}
use Rattle.mls_model.specs.declared.effect.Effect.TheVariants.{Advanced}
use Rattle.mls_model.specs.declared.origin.Origin.{Origin}
use Rattle.mls_model.specs.declared.origin.Origin.TheVariants.{Creation, GroupInfo as JoinedBy}
use Rattle.mls_model.specs.Agreement.{Agree, AgreeOrTwins}
use Rattle.mls_model.specs.MemberInvariant.{IsGoodPending, IsGoodIfPending, IsGoodMember}
use Rattle.mls_model.specs.Candidate.{Candidate}
use Rattle.mls_model.specs.Commit.{change_of_commit, next_public}
use Rattle.mls_model.specs.Invariant.{tag_of_message, last_tag}
use Rattle.mls_model.specs.Join.{JoinedMember, join_verdict}
use Rattle.mls_model.specs.Journal.{Entry, names_in, list_in, entry_of}
use Rattle.mls_model.specs.Lineage.{IsSameState}
use Rattle.mls_model.specs.Make.{make, commit_call}
use Rattle.mls_model.specs.Member.{KeptProposal, Pending, Member, kept_under, with_kept, with_epoch, with_pending, without_pending}
use Rattle.mls_model.specs.Messages.{decode_message, reference_of, require_within_limit, message_by}
use Rattle.mls_model.specs.OpenedWelcome.{Opened, opened_welcome}
use Rattle.mls_model.specs.Proposals.{proposal_checks}
use Rattle.mls_model.specs.Propose.{proposal_by, keep_once, make_proposal}
use Rattle.mls_model.specs.PublicState.{PublicState}
use Rattle.mls_model.specs.JournalState.{Creations, used_by_names, public_after, public_of_info, public_of}
use Rattle.mls_model.specs.Verdict.{bytes_verdict}
use Rattle.mls_theorems.proofs.CommitEntries.{entry_at, list_at, tag_at, received_along, made_along}
use Rattle.mls_theorems.proofs.Entered.{HasOpened, has_opened, TreeDid, tree_did, MemberDid, member_did, joined_by}
use Rattle.mls_model.specs.VerdictFindings.{DidPending}
use Rattle.mls_model.proofs.Found.{DidOther}
use Rattle.mls_model.proofs.Receipts.{did_take}
use Rattle.mls_wire.proofs.CheckLaws.{require_ok, then_ok, bind_ok}
use Rattle.mls_theorems.proofs.Used.{used_by_entry}
use Rattle.mls_theorems.specs.Journals.{StandsAtJournal, PublicAgreement, SecretAgreement, CreationsAlong, JoinsAlong, JoinsHereAlong, DeliveriesAlong, StatesAlong, CallsKeepState}

one_state : (p q : PublicState) (r : Result PublicState ℕ) → r ≡ Ok p → r ≡ Ok q → p ≡ q
one_state p q r a b = ok_is p q (sym a ∙ b)

pub agree_by : (m n : Member) → m.public ≡ n.public → Agree m n
agree_by m n e = record {
  tree = ap (λ (p : PublicState). p.tree) e;
  context = ap (λ (p : PublicState). p.context) e;
  confirmed = ap (λ (p : PublicState). p.context.confirmed_transcript_hash) e;
  interim = ap (λ (p : PublicState). p.interim) e;
}

pub public_agreement : PublicAgreement
public_agreement c creations origin entries m n a b = agree_by m n (one_state m.public n.public (public_of c creations origin entries) a.public b.public)

pub secret_agreement : SecretAgreement
secret_agreement c creations origin entries m n tag a b last =
    let same = public_agreement c creations origin entries m n a b in
    let tags : confirmation_tag m.epoch_secret m.public.context.confirmed_transcript_hash ≡ confirmation_tag n.epoch_secret m.public.context.confirmed_transcript_hash =
    a.tagged tag last ∙ sym (b.tagged tag last) ∙ ap (confirmation_tag n.epoch_secret) (sym same.confirmed) in
    by_one (one_or_twins m.epoch_secret n.epoch_secret m.public.context.confirmed_transcript_hash tags)
  where
    by_one : AreOne m.epoch_secret n.epoch_secret ⊎ Twins m.epoch_secret n.epoch_secret m.public.context.confirmed_transcript_hash → AgreeOrTwins m n
    by_one (inl one) = inl (record { epoch = one.epoch; nine = one.nine })
    by_one (inr twins) = inr twins

-- ---- the tag of one more entry

pub last_more : (origin : Origin) (e : Entry) (es : List Entry) → last_tag origin (e ∷ es) ≡ tag_of_message (decode_message e.commit)
unfolding last_tag
last_more (Creation k) e es = refl
last_more (JoinedBy info) e es = refl

one_tag : (s t : List ℕ) (o : Option (List ℕ)) → o ≡ Some s → o ≡ Some t → s ≡ t
one_tag s t o a b = cc

-- ---- creations and joins

no_last : (k : ℕ) (tag : List ℕ) → last_tag (Creation k) [] ≡ Some tag → ⊥
unfolding last_tag
no_last k tag h = absurd cc

pub creations_along : CreationsAlong
unfolding public_of
creations_along c creations k m h = record { public = rw h refl; tagged = λ tag last. absurd (no_last k tag last) }

unfoldable state_of : Opened → Term → PublicState
state_of o t = record { context = o.info.group_context; tree = t; interim = interim_hash o.info.group_context.confirmed_transcript_hash o.info.confirmation_tag }

state_of_info : (c : Crypto) (o : Opened) (t : Term) → HasOpened c o → TreeDid c o.info t → public_of_info o.bytes ≡ Ok (state_of o t)
unfolding public_of_info state_of
state_of_info c o t opened tree = let e1 = opened.reads in let e2 = tree.are_nodes in let e3 = tree.sent in rw (e1, e2, e3) refl

tag_of_opened : (c : Crypto) (o : Opened) → HasOpened c o → last_tag (JoinedBy o.bytes) [] ≡ Some o.info.confirmation_tag
unfolding last_tag
tag_of_opened c o opened = let e1 = opened.reads in rw e1 refl

info_is : (k : Candidate) (o : Opened) (t : Term) (keys : PrivateKeys) → (joined_by k o t keys).info ≡ o.bytes
unfolding joined_by
info_is k o t keys = refl

state_is : (k : Candidate) (o : Opened) (t : Term) (keys : PrivateKeys) → (joined_by k o t keys).member.public ≡ state_of o t
unfolding joined_by state_of
state_is k o t keys = refl

info_state : (c : Crypto) (creations : Creations) (info : List ℕ) (p : PublicState) → public_of_info info ≡ Ok p → public_of c creations (JoinedBy info) [] ≡ Ok p
unfolding public_of
info_state c creations info p h = h

opened_along : (c : Crypto) (creations : Creations) (k : Candidate) (o : Opened) (joined : JoinedMember) → HasOpened c o → (d : MemberDid c k o joined) → StandsAtJournal c creations (JoinedBy o.bytes) [] (joined_by k o d.tree d.keys).member
unfolding joined_by state_of
opened_along c creations k o joined opened d =
    record {
      public = info_state c creations o.bytes (state_of o d.tree) (state_of_info c o d.tree opened (tree_did c o.info d.tree d.is_tree));
      tagged = λ tag last. sym ((bytes_eq-Decides _ _).0 d.confirmed) ∙ one_tag o.info.confirmation_tag tag (last_tag (JoinedBy o.bytes) []) (tag_of_opened c o opened) last;
    }

pub joins_along : JoinsAlong
unfolding join_verdict
joins_along c creations k bytes joined h =
    let s = bind_ok (opened_welcome c k bytes) _ _ h in
    let opened = has_opened c k bytes s.0 s.1 in
    let d = member_did c k s.0 joined s.2 in
    let along = opened_along c creations k s.0 joined opened d in
    subst (λ (j : JoinedMember). StandsAtJournal c creations (JoinedBy j.info) [] j.member) d.is
    (subst (λ (b : List ℕ). StandsAtJournal c creations (JoinedBy b) [] (joined_by k s.0 d.tree d.keys).member) (sym (info_is k s.0 d.tree d.keys)) along)

-- it has a confirmation tag
pub joins_tag : (c : Crypto) (k : Candidate) (bytes : List ℕ) (joined : JoinedMember) → join_verdict c k bytes ≡ Ok joined → (tag : List ℕ) × (last_tag (JoinedBy joined.info) [] ≡ Some tag)
unfolding join_verdict
joins_tag c k bytes joined h =
    let s = bind_ok (opened_welcome c k bytes) _ _ h in
    let d = member_did c k s.0 joined s.2 in
    (s.0.info.confirmation_tag, ap (λ (i : List ℕ). last_tag (JoinedBy i) []) (sym (ap (λ (j : JoinedMember). j.info) d.is) ∙ info_is k s.0 d.tree d.keys) ∙ tag_of_opened c s.0 (has_opened c k bytes s.0 s.1))

-- ---- commits

-- with one more entry
more_along : (c : Crypto) (creations : Creations) (origin : Origin) (entries : List Entry) (m : Member) (e : Entry) (p : PublicState) → StandsAtJournal c creations origin entries m → public_after c m.public e ≡ Ok p → public_of c creations origin (e ∷ entries) ≡ Ok p
unfolding public_of
more_along c creations origin entries m e p along h = let q = along.public in rw q h

pub joins_here_along : JoinsHereAlong
joins_here_along c creations origin entries maker list made k welcome joins along is =
    let a = made_along c maker list made is in
    let e : Entry = record { commit = made.commit; named_messages = names_in maker.kept list } in
    record {
      public = more_along c creations origin entries maker e joins.joined.member.public along (a.public ∙ ap Ok (sym joins.public));
      tagged = λ tag last.
          ap (λ (s : List ℕ). confirmation_tag s joins.joined.member.public.context.confirmed_transcript_hash) joins.epoch
          ∙ ap (λ (p : PublicState). confirmation_tag made.pending.epoch_secret p.context.confirmed_transcript_hash) joins.public
          ∙ one_tag _ tag (tag_of_message (decode_message made.commit)) a.is_tag (sym (last_more origin e entries) ∙ last);
    }

-- its own
pending_along : (c : Crypto) (m : Member) (p : Pending) (bytes : List ℕ) → IsGoodMember c m → IsGoodPending c m p → p.message ≡ bytes → public_after c m.public (entry_of m bytes) ≡ Ok p.public
unfolding entry_of next_public
pending_along c m p bytes good h same =
    let reads : decode_message bytes ≡ Ok (message.PublicMessage h.said) = ap decode_message (sym same) ∙ h.decodes in
    let list : list_in bytes ≡ h.commit.proposals = list_at bytes h.said h.commit h.tag reads h.says in
    let used : used_by_names m.keys.leaf h.commit.proposals (names_in m.kept (list_in bytes)) ≡ Ok h.used =
    ap (λ (l : List ProposalOrRef). used_by_names m.keys.leaf h.commit.proposals (names_in m.kept l)) list ∙ used_by_entry c m m.kept m.keys.leaf h.commit.proposals h.used good.kept h.uses in
    let s = bind_ok (change_of_commit c m.public m.keys.leaf h.used h.commit (framed_content_of h.said.content) h.said.content.signature) _ _ h.next in
    entry_at c m.public bytes (names_in m.kept (list_in bytes)) h.said h.commit h.tag h.used s.0 reads h.says
    (ap (λ (i : ℕ). used_by_names i h.commit.proposals (names_in m.kept (list_in bytes))) h.from ∙ used)
    (ap (λ (i : ℕ). change_of_commit c m.public i h.used h.commit (framed_content_of h.said.content) h.said.content.signature) h.from ∙ s.1)
    ∙ s.2

own_along : (c : Crypto) (creations : Creations) (origin : Origin) (entries : List Entry) (m : Member) (p : Pending) (bytes : List ℕ) → IsGoodMember c m → StandsAtJournal c creations origin entries m → IsGoodPending c m p → p.message ≡ bytes →
    StandsAtJournal c creations origin (entry_of m bytes ∷ entries) (with_epoch m p.public p.epoch_secret p.keys)
unfolding with_epoch entry_of
own_along c creations origin entries m p bytes good along h same = record {
  public = more_along c creations origin entries m (entry_of m bytes) p.public along (pending_along c m p bytes good h same);
  tagged = λ tag last. sym h.confirmed ∙ one_tag h.tag tag (tag_of_message (decode_message bytes)) (tag_at bytes h.said h.commit h.tag (ap decode_message (sym same) ∙ h.decodes) h.says) (sym (last_more origin (entry_of m bytes) entries) ∙ last);
}

other_along : (c : Crypto) (creations : Creations) (origin : Origin) (entries : List Entry) (m : Member) (bytes : List ℕ) (epoch : ℕ) (after : Member) → IsGoodMember c m → StandsAtJournal c creations origin entries m → bytes_verdict c m bytes ≡ Ok (Advanced epoch, after) →
    StandsAtJournal c creations origin (entry_of m bytes ∷ entries) after
unfolding entry_of
other_along c creations origin entries m bytes epoch after good along h =
    let a = received_along c m bytes epoch after good.kept h in
    record {
      public = more_along c creations origin entries m (entry_of m bytes) after.public along a.public;
      tagged = λ tag last. a.confirmed ∙ one_tag a.tag tag (tag_of_message (decode_message bytes)) a.is_tag (sym (last_more origin (entry_of m bytes) entries) ∙ last);
    }

pub deliveries_along : DeliveriesAlong
deliveries_along c creations origin entries m bytes epoch after good along h = by_case (did_take c m bytes (Advanced epoch, after) h).did
  where
    by_case : DidPending m bytes (Advanced epoch, after) ⊎ DidOther c m bytes (Advanced epoch, after) → StandsAtJournal c creations origin (entry_of m bytes ∷ entries) after
    by_case (inl d) =
        let p : IsGoodPending c m d.pending = subst (IsGoodIfPending c m) d.is_pending good.pending in
        subst (StandsAtJournal c creations origin (entry_of m bytes ∷ entries)) (ap (λ (x : Effect × Member). x.1) d.is) (own_along c creations origin entries m d.pending bytes good along p ((bytes_eq-Decides _ _).0 d.is_message))
    by_case (inr d) = other_along c creations origin entries m bytes epoch after good along d.is

pub states_along : StatesAlong
states_along c creations origin entries m n same along = record {
  public = along.public ∙ ap Ok same.public;
  tagged = λ tag last. ap (λ (s : List ℕ). confirmation_tag s n.public.context.confirmed_transcript_hash) (sym same.epoch) ∙ ap (λ (p : PublicState). confirmation_tag m.epoch_secret p.context.confirmed_transcript_hash) (sym same.public) ∙ along.tagged tag last;
}

pub same_itself : (m : Member) → IsSameState m m
same_itself m = record { public = refl; epoch = refl; keys = refl; signing = refl }

keeping_same : (m : Member) (k : KeptProposal) → IsSameState m (with_kept m k)
unfolding with_kept
keeping_same m k = record { public = refl; epoch = refl; keys = refl; signing = refl }

pub pending_same : (m : Member) (p : Pending) → IsSameState m (with_pending m p)
unfolding with_pending
pending_same m p = record { public = refl; epoch = refl; keys = refl; signing = refl }

dropped_same : (m : Member) → IsSameState m (without_pending m)
unfolding without_pending
dropped_same m = record { public = refl; epoch = refl; keys = refl; signing = refl }

once_same : (m : Member) (k : KeptProposal) (o : Option KeptProposal) (x : List ℕ × Member) → keep_once m k o ≡ Ok x → IsSameState m x.1
once_same m k None x h = subst (λ (y : List ℕ × Member). IsSameState m y.1) (ok_is _ x h) (keeping_same m k)
once_same m k (Some old) x h = subst (λ (y : List ℕ × Member). IsSameState m y.1) (ok_is _ x (require_ok _ _ _ _ h).1) (same_itself m)

proposed_same : (c : Crypto) (m : Member) (said : Proposal) (own_key : Option (List ℕ)) (x : List ℕ × Member) → make_proposal c m said own_key ≡ Ok x → IsSameState m x.1
unfolding make_proposal
proposed_same c m said own_key x h =
    let s1 = require_ok 40 (not m.gone) _ _ h in
    let s2 = then_ok (proposal_checks c m.public m.keys.leaf said) _ _ s1.1 in
    let s3 = then_ok (require_within_limit (message_by m (proposal_by c m said))) _ _ s2.1 in
    once_same m _ (kept_under m.kept (reference_of (proposal_by c m said))) x s3.1

committed_same : (c : Crypto) (m : Member) (list : List ProposalOrRef) (wants_path : Bool) (seed : List ℕ) (x : (List ℕ × Option (List ℕ)) × Member) → commit_call c m list wants_path seed ≡ Ok x → IsSameState m x.1
unfolding commit_call
committed_same c m list wants_path seed x h =
    let s = bind_ok (make c m list wants_path seed) _ _ h in
    subst (λ (y : (List ℕ × Option (List ℕ)) × Member). IsSameState m y.1) (ok_is _ x s.2) (pending_same m s.0.pending)

pub calls_keep_state : CallsKeepState
calls_keep_state = record { proposals = proposed_same; commits = committed_same; drops = dropped_same }
