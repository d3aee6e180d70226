-- What holds of a good world is kept by each change of it: more messages, more made commits, a member in another state, one
-- more candidate, one more member.
use Rattle.std.proofs.Common.{◌≡◌, ℕ, zero, suc, ◌<◌, ◌==◌, Bool, true, false, List, [], ◌∷◌, ◌++◌, length, Some, refl, ap, sym, ◌∙◌, subst, ◌⊎◌, inl, inr, slice_get, slice_set, arith, eqb-true}
use Rattle.std.proofs.lemmas.Bool.{eqb-false}
use Rattle.std.specs.Prelude.{◌≢◌}
use Rattle.std.proofs.Math.ListN.{length-set}
use Rattle.mls_wire.specs.Format.{IsBytes}
use Rattle.mls_types.specs.declared.commit.ProposalOrRef.{ProposalOrRef}
use Rattle.mls_suite.specs.Crypto.{Crypto}
use Rattle.mls_model.specs.Agreement.{Keeps}
use Rattle.mls_model.specs.MemberInvariant.{IsGoodCandidate}
use Rattle.mls_model.specs.Candidate.{Candidate}
use Rattle.mls_model.specs.Headline.{IsPendingOf}
use Rattle.mls_model.specs.Invariant.{IsSeated, IsRecorded, IsSpentFor, IsGoodBy}
use Rattle.mls_model.specs.Journal.{CommitMade}
use Rattle.mls_model.specs.Lineage.{IsSameState, IsReached}
use Rattle.mls_model.specs.Member.{KeptProposal, Member, Pending}
use Rattle.mls_model.specs.JournalState.{Creations}
use Rattle.mls_model.specs.World.{World, Entrant, Seat}
use Rattle.mls_theorems.proofs.Journals.{same_itself}
use Rattle.mls_theorems.specs.Lists.{Grows}
use Rattle.mls_theorems.proofs.Lists.{one_there, grows_none, get_append, get_last, get_either, get_set, set_here, set_other}
use Rattle.mls_theorems.proofs.Past.{same_on, past_grows, seated_by}

-- ---- members that go on

-- a member in the same state, or in a later epoch
abbrev pub IsSince : Member → Member → Type 0
IsSince m n = IsSameState m n ⊎ (m.public.context.epoch < n.public.context.epoch)

epoch_same : (m n : Member) → IsSameState m n → m.public.context.epoch ≡ n.public.context.epoch
epoch_same m n s = ap (λ p. p.context.epoch) s.public

pub since_on : (l m n : Member) → IsSince l m → IsSince m n → IsSince l n
since_on l m n (inl a) (inl b) = inl (same_on l m n a b)
since_on l m n (inl a) (inr b) = inr (let e = epoch_same l m a in omega arith)
since_on l m n (inr a) (inl b) = inr (let e = epoch_same m n b in omega arith)
since_on l m n (inr a) (inr b) = inr (omega arith)

-- in its epoch it keeps whatever it kept
abbrev pub KeepsOn : Member → Member → Type 0
KeepsOn m n = m.public.context.epoch ≡ n.public.context.epoch → (list : List ProposalOrRef) (names : List (List ℕ)) → Keeps m.kept list names → Keeps n.kept list names

pub keeps_same : (m n : Member) → m.kept ≡ n.kept → KeepsOn m n
keeps_same m n same e list names h = subst (λ (kept : List KeptProposal). Keeps kept list names) same h

-- member k goes on in another world
pub record GoesOn (w : World) (k : ℕ) (s : Seat) : Type 0 where
  pub after : Seat
  pub is : slice_get w.seats k ≡ Some after
  pub signing : s.member.signing ≡ after.member.signing
  pub since : IsSince s.member after.member
  pub keeps : KeepsOn s.member after.member

abbrev pub SeatsGoOn : World → World → Type 0
SeatsGoOn w v = (k : ℕ) (s : Seat) → slice_get w.seats k ≡ Some s → GoesOn v k s

pub goes_still : (w : World) (k : ℕ) (s : Seat) → slice_get w.seats k ≡ Some s → GoesOn w k s
goes_still w k s is = record { after = s; is = is; signing = refl; since = inl (same_itself s.member); keeps = keeps_same s.member s.member refl }

-- where no epoch began from the first to the third of three states, none did between
no_epoch_began : (l m n : Member) → IsSince l m → IsSince m n → l.public.context.epoch ≡ n.public.context.epoch → (l.public.context.epoch ≡ m.public.context.epoch) × (m.public.context.epoch ≡ n.public.context.epoch)
no_epoch_began l m n (inl a) b e = let s = epoch_same l m a in (s, sym s ∙ e)
no_epoch_began l m n (inr a) (inl b) e = absurd (let s = epoch_same m n b in omega (arith, a, s, e))
no_epoch_began l m n (inr a) (inr b) e = absurd (omega (arith, a, b, e))

-- ---- what grows

pub record WorldGrows (creations creations' : Creations) (w v : World) : Type 0 where
  pub creations_grow : Grows creations creations'
  pub made_grow : Grows w.commits v.commits
  pub messages_grow : Grows w.messages v.messages
  pub seats_go_on : SeatsGoOn w v

pub record_grows : (c : Crypto) (creations creations' : Creations) (w v : World) → WorldGrows creations creations' w v → (d : CommitMade) → IsRecorded c creations w d → IsRecorded c creations' v d
record_grows c creations creations' w v g d r =
    let n = g.seats_go_on d.maker r.seat r.is_seat in
    record {
      maker = r.maker;
      list = r.list;
      call = r.call;
      seat = n.after;
      reached = past_grows c creations creations' w.commits v.commits g.creations_grow g.made_grow d.journal.origin d.journal.entries r.maker r.reached;
      is_made = r.is_made;
      listed = r.listed;
      commit = r.commit;
      names = r.names;
      adds = r.adds;
      epoch = r.epoch;
      welcome = r.welcome;
      number = λ i bytes e. g.messages_grow i bytes (r.number i bytes e);
      is_seat = n.is;
      same_signing = r.same_signing ∙ n.signing;
      since = since_on r.maker r.seat.member n.after.member r.since n.since;
      keeps = λ e. let x = no_epoch_began r.maker r.seat.member n.after.member r.since n.since e in n.keeps x.1 r.list d.entry.named_messages (r.keeps x.0);
    }

pub seated_grows : (c : Crypto) (creations creations' : Creations) (w v : World) → WorldGrows creations creations' w v → (s : Seat) → IsSeated c creations w s → IsSeated c creations' v s
seated_grows c creations creations' w v g s a = seated_by c creations' v s (past_grows c creations creations' w.commits v.commits g.creations_grow g.made_grow s.journal.origin s.journal.entries s.member a.reached)

pub pending_grows : (w v : World) → Grows w.commits v.commits → (k : ℕ) (s : Seat) (p : Pending) → IsPendingOf w k s p → IsPendingOf v k s p
pending_grows w v g k s p a = record { which = a.which; place = a.place; is = g a.place a.which a.is; maker = a.maker; journal = a.journal; commit = a.commit; names = a.names; epoch = a.epoch }

-- ---- more messages

abbrev pub AreMessages : List (List ℕ) → Type 0
AreMessages more = (n : ℕ) (bytes : List ℕ) → slice_get more n ≡ Some bytes → IsBytes bytes

pub no_messages : AreMessages []
no_messages n bytes e = absurd cc

pub one_message : (x : List ℕ) → IsBytes x → AreMessages (x ∷ [])
one_message x are zero bytes e = let same : x ≡ bytes = cc in subst IsBytes same are
one_message x are (suc n) bytes e = absurd cc

pub two_messages : (x y : List ℕ) → IsBytes x → IsBytes y → AreMessages (x ∷ (y ∷ []))
two_messages x y are be zero bytes e = let same : x ≡ bytes = cc in subst IsBytes same are
two_messages x y are be (suc n) bytes e = one_message y be n bytes e

pub more_messages : (c : Crypto) (creations : Creations) (w : World) (more : List (List ℕ)) → IsGoodBy c creations w → AreMessages more → IsGoodBy c creations (record w { messages = w.messages ++ more })
more_messages c creations w more g are =
    let v : World = record w { messages = w.messages ++ more } in
    let grows : WorldGrows creations creations w v = record { creations_grow = grows_none creations; made_grow = grows_none w.commits; messages_grow = get_append w.messages more; seats_go_on = goes_still v } in
    record {
      seats = g.seats;
      candidates = g.candidates;
      distinct = g.distinct;
      spent = λ k s e. let x = g.spent k s e in record { place = x.place; entrant = x.entrant; is = x.is; spent = x.spent; signing = x.signing };
      apart = g.apart;
      members = λ k s a. seated_grows c creations creations w v grows s (g.members k s (record { is = a.is; active = a.active }));
      records = λ n d e. record_grows c creations creations w v grows d (g.records n d e);
      numbers = g.numbers;
      messages = λ n bytes e. by_either n bytes (get_either w.messages more n bytes e);
      pending = λ k s p a e. pending_grows w v (grows_none w.commits) k s p (g.pending k s p (record { is = a.is; active = a.active }) e);
    }
  where
    by_either : (n : ℕ) (bytes : List ℕ) → (slice_get w.messages n ≡ Some bytes) ⊎ ((j : ℕ) × (slice_get more j ≡ Some bytes)) → IsBytes bytes
    by_either n bytes (inl e) = g.messages n bytes e
    by_either n bytes (inr e) = are e.0 bytes e.1

-- ---- one more commit that was made

-- its Welcome has a number that no other has
abbrev pub IsNewNumber : World → CommitMade → Type 0
IsNewNumber w d = (i n : ℕ) (x y : List ℕ) (e : CommitMade) → slice_get w.commits i ≡ Some e → e.welcome ≡ Some (n, y) → d.welcome ≡ Some (n, x) → ⊥

pub more_made : (c : Crypto) (creations : Creations) (w : World) (d : CommitMade) → IsGoodBy c creations w → IsRecorded c creations (record w { commits = w.commits ++ (d ∷ []) }) d → IsNewNumber w d →
    IsGoodBy c creations (record w { commits = w.commits ++ (d ∷ []) })
more_made c creations w d g r new =
    let v : World = record w { commits = w.commits ++ (d ∷ []) } in
    let grows : WorldGrows creations creations w v = record { creations_grow = grows_none creations; made_grow = get_append w.commits (d ∷ []); messages_grow = grows_none w.messages; seats_go_on = goes_still v } in
    record {
      seats = g.seats;
      candidates = g.candidates;
      distinct = g.distinct;
      spent = λ k s e. let x = g.spent k s e in record { place = x.place; entrant = x.entrant; is = x.is; spent = x.spent; signing = x.signing };
      apart = g.apart;
      members = λ k s a. seated_grows c creations creations w v grows s (g.members k s (record { is = a.is; active = a.active }));
      records = λ n e h. by_last n e grows (get_last w.commits d n e h);
      numbers = λ i j n x y e f a b p q. by_both i j n x y e f (get_last w.commits d i e a) (get_last w.commits d j f b) p q;
      messages = g.messages;
      pending = λ k s p a e. pending_grows w v (get_append w.commits (d ∷ [])) k s p (g.pending k s p (record { is = a.is; active = a.active }) e);
    }
  where
    by_last : (n : ℕ) (e : CommitMade) → WorldGrows creations creations w (record w { commits = w.commits ++ (d ∷ []) }) → (slice_get w.commits n ≡ Some e) ⊎ ((n ≡ length w.commits) × (d ≡ e)) → IsRecorded c creations (record w { commits = w.commits ++ (d ∷ []) }) e
    by_last n e grows (inl h) = record_grows c creations creations w (record w { commits = w.commits ++ (d ∷ []) }) grows e (g.records n e h)
    by_last n e grows (inr h) = subst (IsRecorded c creations (record w { commits = w.commits ++ (d ∷ []) })) h.1 r

    by_both : (i j n : ℕ) (x y : List ℕ) (e f : CommitMade) → (slice_get w.commits i ≡ Some e) ⊎ ((i ≡ length w.commits) × (d ≡ e)) → (slice_get w.commits j ≡ Some f) ⊎ ((j ≡ length w.commits) × (d ≡ f)) →
        e.welcome ≡ Some (n, x) → f.welcome ≡ Some (n, y) → e ≡ f
    by_both i j n x y e f (inl a) (inl b) p q = g.numbers i j n x y e f a b p q
    by_both i j n x y e f (inl a) (inr b) p q = absurd (new i n y x e a p (ap (λ (z : CommitMade). z.welcome) b.1 ∙ q))
    by_both i j n x y e f (inr a) (inl b) p q = absurd (new j n x y f b q (ap (λ (z : CommitMade). z.welcome) a.1 ∙ p))
    by_both i j n x y e f (inr a) (inr b) p q = sym a.1 ∙ b.1

-- ---- a member in another state

either_way : (i k : ℕ) (b : Bool) → (i == k) ≡ b → (i ≡ k) ⊎ (i ≢ k)
either_way i k true e = inl (eqb-true i k e)
either_way i k false e = inr (eqb-false i k e)

pub either_place : (i k : ℕ) → (i ≡ k) ⊎ (i ≢ k)
either_place i k = either_way i k (i == k) refl

pub change_member : (c : Crypto) (creations : Creations) (w : World) (k : ℕ) (s t : Seat) → IsGoodBy c creations w → slice_get w.seats k ≡ Some s → s.member.signing ≡ t.member.signing → IsSince s.member t.member → KeepsOn s.member t.member →
    (t.member.gone ≡ false → IsReached c creations w.commits t.journal.origin t.journal.entries t.member) → ((p : Pending) → t.member.gone ≡ false → t.member.pending ≡ Some p → IsPendingOf w k t p) →
    IsGoodBy c creations (record w { seats = slice_set w.seats k t })
change_member c creations w k s t g at signing since keeps reached pending =
    record {
      seats = g.seats ∙ sym (length-set w.seats k t);
      candidates = g.candidates;
      distinct = g.distinct;
      spent = λ i x e. spent_by i x (get_set w.seats k t i x e);
      apart = λ i j x y apart a b. apart_by i j x y apart (get_set w.seats k t i x a) (get_set w.seats k t j y b);
      members = λ i x a. member_by i x a.active (get_set w.seats k t i x a.is);
      records = λ n d e. record_grows c creations creations w v grows d (g.records n d e);
      numbers = g.numbers;
      messages = g.messages;
      pending = λ i x p a e. pending_by i x p a.active e (get_set w.seats k t i x a.is);
    }
  where
    v : World
    v = record w { seats = slice_set w.seats k t }

    go : (i : ℕ) (x : Seat) → slice_get w.seats i ≡ Some x → (i ≡ k) ⊎ (i ≢ k) → GoesOn v i x
    go i x e (inl same) =
        let here : slice_get w.seats k ≡ Some x = ap (slice_get w.seats) (sym same) ∙ e in
        let one : s ≡ x = one_there (slice_get w.seats k) s x at here in
        record {
          after = t;
          is = ap (slice_get v.seats) same ∙ set_here w.seats k t s at;
          signing = ap (λ (y : Seat). y.member.signing) (sym one) ∙ signing;
          since = subst (λ (y : Seat). IsSince y.member t.member) one since;
          keeps = subst (λ (y : Seat). KeepsOn y.member t.member) one keeps;
        }
    go i x e (inr other) = record { after = x; is = set_other w.seats k t i x other e; signing = refl; since = inl (same_itself x.member); keeps = keeps_same x.member x.member refl }

    grows : WorldGrows creations creations w v
    grows = record {
      creations_grow = grows_none creations;
      made_grow = grows_none w.commits;
      messages_grow = grows_none w.messages;
      seats_go_on = λ i x e. go i x e (either_place i k);
    }

    spent_by : (i : ℕ) (x : Seat) → ((i ≡ k) × (t ≡ x)) ⊎ ((i ≢ k) × (slice_get w.seats i ≡ Some x)) → IsSpentFor v x
    spent_by i x (inl e) = let y = g.spent k s at in record { place = y.place; entrant = y.entrant; is = y.is; spent = y.spent; signing = y.signing ∙ signing ∙ ap (λ (z : Seat). z.member.signing) e.1 }
    spent_by i x (inr e) = let y = g.spent i x e.1 in record { place = y.place; entrant = y.entrant; is = y.is; spent = y.spent; signing = y.signing }

    -- the seat that stood there, with the same signature key
    was : (i : ℕ) (x : Seat) → ((i ≡ k) × (t ≡ x)) ⊎ ((i ≢ k) × (slice_get w.seats i ≡ Some x)) → (y : Seat) × (slice_get w.seats i ≡ Some y) × (y.member.signing ≡ x.member.signing)
    was i x (inl e) = (s, ap (slice_get w.seats) e.0 ∙ at, signing ∙ ap (λ (z : Seat). z.member.signing) e.1)
    was i x (inr e) = (x, e.1, refl)

    apart_by : (i j : ℕ) (x y : Seat) → i ≢ j → ((i ≡ k) × (t ≡ x)) ⊎ ((i ≢ k) × (slice_get w.seats i ≡ Some x)) → ((j ≡ k) × (t ≡ y)) ⊎ ((j ≢ k) × (slice_get w.seats j ≡ Some y)) →
        c.sig_public x.member.signing ≢ c.sig_public y.member.signing
    apart_by i j x y apart a b same =
        let p = was i x a in
        let q = was j y b in
        g.apart i j p.0 q.0 apart p.1 q.1 (ap c.sig_public p.2 ∙ same ∙ ap c.sig_public (sym q.2))

    member_by : (i : ℕ) (x : Seat) → x.member.gone ≡ false → ((i ≡ k) × (t ≡ x)) ⊎ ((i ≢ k) × (slice_get w.seats i ≡ Some x)) → IsSeated c creations v x
    member_by i x active (inl e) = subst (IsSeated c creations v) e.1 (seated_by c creations v t (reached (ap (λ (z : Seat). z.member.gone) e.1 ∙ active)))
    member_by i x active (inr e) = seated_grows c creations creations w v grows x (g.members i x (record { is = e.1; active = active }))

    pending_by : (i : ℕ) (x : Seat) (p : Pending) → x.member.gone ≡ false → x.member.pending ≡ Some p → ((i ≡ k) × (t ≡ x)) ⊎ ((i ≢ k) × (slice_get w.seats i ≡ Some x)) → IsPendingOf v i x p
    pending_by i x p active e (inl h) =
        let here : IsPendingOf w k t p = pending p (ap (λ (z : Seat). z.member.gone) h.1 ∙ active) (ap (λ (z : Seat). z.member.pending) h.1 ∙ e) in
        pending_grows w v (grows_none w.commits) i x p (subst (λ (z : Seat). IsPendingOf w i z p) h.1 (subst (λ (n : ℕ). IsPendingOf w n t p) (sym h.0) here))
    pending_by i x p active e (inr h) = pending_grows w v (grows_none w.commits) i x p (g.pending i x p (record { is = h.1; active = active }) e)

-- ---- one more candidate

pub more_entrants : (c : Crypto) (creations : Creations) (w : World) (k : Candidate) → IsGoodBy c creations w → IsGoodCandidate c k →
    ((i : ℕ) (e : Entrant) → slice_get w.entrants i ≡ Some e → e.candidate.offered.leaf_node.signature_key ≢ k.offered.leaf_node.signature_key) →
    IsGoodBy c creations (record w { entrants = w.entrants ++ (record { candidate = k; is_spent = false } ∷ []) })
more_entrants c creations w k g good new =
    record {
      seats = g.seats;
      candidates = λ i e h. candidate_by i e (get_last w.entrants x i e h);
      distinct = λ i j d e apart a b. distinct_by i j d e apart (get_last w.entrants x i d a) (get_last w.entrants x j e b);
      spent = λ i s e. let y = g.spent i s e in record { place = y.place; entrant = y.entrant; is = get_append w.entrants (x ∷ []) y.place y.entrant y.is; spent = y.spent; signing = y.signing };
      apart = g.apart;
      members = λ i s a. seated_grows c creations creations w v grows s (g.members i s (record { is = a.is; active = a.active }));
      records = λ n d e. record_grows c creations creations w v grows d (g.records n d e);
      numbers = g.numbers;
      messages = g.messages;
      pending = λ i s p a e. pending_grows w v (grows_none w.commits) i s p (g.pending i s p (record { is = a.is; active = a.active }) e);
    }
  where
    x : Entrant
    x = record { candidate = k; is_spent = false }

    v : World
    v = record w { entrants = w.entrants ++ (x ∷ []) }

    grows : WorldGrows creations creations w v
    grows = record { creations_grow = grows_none creations; made_grow = grows_none w.commits; messages_grow = grows_none w.messages; seats_go_on = goes_still v }

    candidate_by : (i : ℕ) (e : Entrant) → (slice_get w.entrants i ≡ Some e) ⊎ ((i ≡ length w.entrants) × (x ≡ e)) → IsGoodCandidate c e.candidate
    candidate_by i e (inl h) = g.candidates i e h
    candidate_by i e (inr h) = subst (λ (y : Entrant). IsGoodCandidate c y.candidate) h.1 good

    distinct_by : (i j : ℕ) (d e : Entrant) → i ≢ j → (slice_get w.entrants i ≡ Some d) ⊎ ((i ≡ length w.entrants) × (x ≡ d)) → (slice_get w.entrants j ≡ Some e) ⊎ ((j ≡ length w.entrants) × (x ≡ e)) →
        d.candidate.offered.leaf_node.signature_key ≢ e.candidate.offered.leaf_node.signature_key
    distinct_by i j d e apart (inl a) (inl b) same = g.distinct i j d e apart a b same
    distinct_by i j d e apart (inl a) (inr b) same = new i d a (same ∙ ap (λ (y : Entrant). y.candidate.offered.leaf_node.signature_key) (sym b.1))
    distinct_by i j d e apart (inr a) (inl b) same = new j e b (sym same ∙ ap (λ (y : Entrant). y.candidate.offered.leaf_node.signature_key) (sym a.1))
    distinct_by i j d e apart (inr a) (inr b) same = apart (a.0 ∙ sym b.0)
