-- A maker refuses its own commit in its epoch, once it isn't pending.
use Rattle.std.proofs.Common.{◌≡◌, ℕ, ◌==◌, Bool, true, false, not, ◌||◌, List, Option, Some, None, Ok, Err, refl, sym, ap, subst, ◌∙◌, inl, inr, slice_get, arith, eq-eqb}
use Rattle.std.proofs.lemmas.Bool.{or_right}
use Rattle.mls_types.specs.declared.commit.ProposalOrRef.{ProposalOrRef}
use Rattle.mls_types.specs.declared.message.MlsMessage.TheVariants as message
use Rattle.mls_types.specs.declared.public_message.PublicMessage.{PublicMessage}
use Rattle.mls_suite.specs.Crypto.{Crypto, Lawful}
use Rattle.mls_treekem_model.specs.Keys.{PrivateKeys}
use Rattle.mls_model.specs.declared.event.Event.TheVariants as event
use Rattle.mls_model.specs.declared.event.Reply.TheVariants as reply
use Rattle.mls_model.specs.declared.event.Source.{Source}
use Rattle.mls_model.specs.Agreement.{Agree}
use Rattle.mls_model.specs.MemberInvariant.{IsGoodMember}
use Rattle.mls_model.specs.WorldCalls.{deliver_answer}
use Rattle.mls_model.specs.Headline.{RefusesOwn, epoch_of_message}
use Rattle.mls_model.specs.Invariant.{IsRecorded, IsGoodBy}
use Rattle.mls_model.specs.Lineage.{IsSameState}
use Rattle.mls_model.specs.Commit.{Change}
use Rattle.mls_model.specs.Make.{MadePath}
use Rattle.mls_model.specs.Member.{Member}
use Rattle.mls_model.specs.Messages.{decode_message, sender_leaf}
use Rattle.mls_model.specs.PublicState.{PublicState}
use Rattle.mls_model.specs.JournalState.{Creations}
use Rattle.mls_model.specs.Run.{answer, step}
use Rattle.mls_model.specs.Verdict.{is_kept, framing_checks, bytes_verdict, own_pending, verdict}
use Rattle.mls_model.specs.World.{World, Seat, bytes_of}
use Rattle.mls_model.specs.VerdictFindings.{IsFramed}
use Rattle.mls_theorems.proofs.Delivered.{other_committer}
use Rattle.mls_theorems.proofs.Framing.{IsFramedButOwn, framed_but_own}
use Rattle.mls_theorems.proofs.CommitEntries.{body_is}
use Rattle.mls_theorems.specs.CommitCalls.{commit_of, said_of, tag_of, content_of, Makes}
use Rattle.mls_theorems.proofs.Makes.{make_did}
use Rattle.mls_theorems.proofs.Received.{sender_is}
use Rattle.mls_theorems.specs.SentCommits.{sent_of}
use Rattle.mls_theorems.proofs.Sent.{made_fits}
use Rattle.mls_theorems.proofs.Changes.{IsSince}
use Rattle.mls_theorems.proofs.Lists.{one_there}

-- ---- a maker's own commit

-- a member in the maker's state meets all checks of every message but the last, which speaks of its own leaf
meets : (c : Crypto) → Lawful c → (maker m : Member) (list : List ProposalOrRef) (path : MadePath) (change : Change) → IsGoodMember c maker → IsSameState maker m → IsFramedButOwn c m (sent_of c maker list path change)
meets c laws maker m list path change good same =
    let agree : Agree maker m = record {
      tree = ap (λ (p : PublicState). p.tree) same.public;
      context = ap (λ (p : PublicState). p.context) same.public;
      confirmed = ap (λ (p : PublicState). p.context.confirmed_transcript_hash) same.public;
      interim = ap (λ (p : PublicState). p.interim) same.public;
    } in
    framed_but_own c laws maker m list path change good agree same.epoch

neither : (i j : ℕ) (b : Bool) → i ≡ j → b ≡ false → (not (i == j) || b) ≡ false
neither i j b e f = let s : (i == j) ≡ true = eq-eqb i j e in rw (s, f) refl

-- the last fails at its own leaf, if the bytes aren't kept
fails_at_last : (c : Crypto) (m : Member) (v : PublicMessage) (bytes : List ℕ) → IsFramedButOwn c m v → (not (sender_leaf v.content.sender == m.keys.leaf) || is_kept m.kept bytes) ≡ false → framing_checks c m v bytes ≡ Err 48
unfolding framing_checks
fails_at_last c m v bytes f last = rw (f.group, f.epoch, f.sender, f.handshake, f.tag, f.signed, last) refl

refuses : (c : Crypto) (m : Member) (v : PublicMessage) (bytes : List ℕ) → m.gone ≡ false → own_pending m.pending bytes ≡ None → decode_message bytes ≡ Ok (message.PublicMessage v) → framing_checks c m v bytes ≡ Err 48 → verdict c m bytes ≡ Err 48
unfolding verdict bytes_verdict
refuses c m v bytes active free reads f = let n : not m.gone ≡ true = ap not active in rw (n, free, reads, f) refl

epoch_is : (c : Crypto) (m : Member) (list : List ProposalOrRef) (path : MadePath) (change : Change) → (sent_of c m list path change).content.epoch ≡ m.public.context.epoch
unfolding sent_of content_of said_of Rattle.mls_model.specs.Messages.content_by
epoch_is c m list path change = refl

refuses_made : (c : Crypto) → Lawful c → (maker m : Member) (list : List ProposalOrRef) (path : MadePath) (change : Change) (bytes : List ℕ) → IsGoodMember c maker → IsGoodMember c m → m.gone ≡ false → IsSameState maker m → own_pending m.pending bytes ≡ None →
    decode_message bytes ≡ Ok (message.PublicMessage (sent_of c maker list path change)) → verdict c m bytes ≡ Err 48
refuses_made c laws maker m list path change bytes good good' active same free reads = by_kept (is_kept m.kept bytes) refl
  where
    v : PublicMessage
    v = sent_of c maker list path change

    own : sender_leaf v.content.sender ≡ m.keys.leaf
    own = sender_is c maker list path change ∙ ap (λ (k : PrivateKeys). k.leaf) same.keys

    f : IsFramedButOwn c m v
    f = meets c laws maker m list path change good same

    by_kept : (b : Bool) → is_kept m.kept bytes ≡ b → verdict c m bytes ≡ Err 48
    by_kept true e =
        let framed : IsFramed c m v bytes = record { group = f.group; epoch = f.epoch; leaf = f.leaf; sender = f.sender; handshake = f.handshake; tag = f.tag; signed = f.signed; other = or_right (not (sender_leaf v.content.sender == m.keys.leaf)) (is_kept m.kept bytes) e } in
        absurd (other_committer c m bytes v (commit_of list path) (tag_of maker path change) good' reads framed (body_is c maker list path change) own)
    by_kept false e = refuses c m v bytes active free reads (fails_at_last c m v bytes f (neither (sender_leaf v.content.sender) m.keys.leaf (is_kept m.kept bytes) own e))

delivery_refused : (c : Crypto) (w : World) (k : ℕ) (s : Seat) (source : Source) (bytes : List ℕ) (n : ℕ) → slice_get w.seats k ≡ Some s → bytes_of w source ≡ Ok bytes → verdict c s.member bytes ≡ Err n → (step c w (event.Deliver k source)).0 ≡ reply.Refused n
unfolding step answer deliver_answer
delivery_refused c w k s source bytes n at b h = rw (at, b, h) refl

abbrev some_epoch : ℕ → Option ℕ
some_epoch n = Some n

some_is : (i j : ℕ) → some_epoch i ≡ Some j → i ≡ j
some_is i j e = cc

pub refuses_own : (c : Crypto) → Lawful c → (creations : Creations) (w : World) → IsGoodBy c creations w → RefusesOwn c w
refuses_own c laws creations w g n d s source at a epoch free b =
    delivery_refused c w d.maker s source d.entry.commit 48 a.is b
    (refuses_made c laws r.maker s.member r.list k.path k.change d.entry.commit r.is_made.good (g.members d.maker s a).good a.active same free reads)
  where
    r : IsRecorded c creations w d
    r = g.records n d at

    k : Makes c r.maker r.list r.is_made.wants_path r.is_made.seed r.call
    k = make_did c r.maker r.list r.is_made.wants_path r.is_made.seed r.call r.is_made.is

    reads : decode_message d.entry.commit ≡ Ok (message.PublicMessage (sent_of c r.maker r.list k.path k.change))
    reads = ap decode_message r.commit ∙ (made_fits c r.maker r.list r.is_made.wants_path r.is_made.seed r.call k r.is_made.good r.is_made.fits).decodes

    seat : r.seat ≡ s
    seat = one_there (slice_get w.seats d.maker) r.seat s r.is_seat a.is

    at_epoch : r.maker.public.context.epoch ≡ s.member.public.context.epoch
    at_epoch = sym (epoch_is c r.maker r.list k.path k.change) ∙ some_is (sent_of c r.maker r.list k.path k.change).content.epoch s.member.public.context.epoch (sym (ap epoch_of_message reads) ∙ epoch)

    since : IsSince r.maker s.member
    since = subst (λ (t : Seat). IsSince r.maker t.member) seat r.since

    by_since : IsSince r.maker s.member → IsSameState r.maker s.member
    by_since (inl e) = e
    by_since (inr later) = absurd (omega (arith, later, at_epoch))

    same : IsSameState r.maker s.member
    same = by_since since
