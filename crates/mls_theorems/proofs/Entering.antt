-- What holds of a good world is kept where a candidate becomes its next member.
use Rattle.std.proofs.Common.{◌≡◌, ℕ, true, false, List, [], ◌∷◌, ◌++◌, length, Option, Some, None, refl, ap, sym, ◌∙◌, subst, ◌⊎◌, inl, inr, slice_get, slice_set, arith, length-append, true≢false}
use Rattle.std.specs.Prelude.{◌≢◌}
use Rattle.mls_suite.specs.Crypto.{Crypto}
use Rattle.mls_model.specs.MemberInvariant.{IsGoodCandidate}
use Rattle.mls_model.specs.Candidate.{Candidate}
use Rattle.mls_model.specs.Headline.{IsPendingOf}
use Rattle.mls_model.specs.Invariant.{IsSeated, IsSpentFor, IsGoodBy}
use Rattle.mls_model.specs.Lineage.{IsReached}
use Rattle.mls_model.specs.Member.{Member, Pending}
use Rattle.mls_model.specs.JournalState.{Creations}
use Rattle.mls_model.specs.World.{World, Entrant, Seat, with_new_member}
use Rattle.mls_theorems.proofs.Journals.{same_itself}
use Rattle.mls_theorems.proofs.Changes.{keeps_same, WorldGrows, record_grows, seated_grows, pending_grows}
use Rattle.mls_theorems.proofs.Lists.{one_there, none_there, grows_none, get_append, get_last, get_set, set_here, set_other}
use Rattle.mls_theorems.proofs.Past.{seated_by}

abbrev first_of : Option Member → Creations
first_of o = o ∷ []

-- The new member's first state, where it created its group, is one more creation.
pub one_more : (c : Crypto) (creations : Creations) (w : World) (n : ℕ) (e : Entrant) (t : Seat) (first : Option Member) → IsGoodBy c creations w → slice_get w.entrants n ≡ Some e → e.is_spent ≡ false → e.candidate.signing ≡ t.member.signing →
    t.member.pending ≡ None → IsReached c (creations ++ first_of first) w.commits t.journal.origin t.journal.entries t.member → IsGoodBy c (creations ++ first_of first) (with_new_member w n e t)
one_more c creations w n e t first g at unspent signing free reached =
    record {
      seats = let a = length-append creations (first_of first) in let b = length-append w.seats (t ∷ []) in let q = g.seats in omega arith;
      candidates = λ i d h. let b = was i d h in subst (IsGoodCandidate c) b.2 (g.candidates i b.0 b.1);
      distinct = λ i j d f apart a b.
          let p = was i d a in
          let q = was j f b in
          λ same. g.distinct i j p.0 q.0 apart p.1 q.1 (ap key_of p.2 ∙ same ∙ ap key_of (sym q.2));
      spent = λ i s h. spent_by i s (get_last w.seats t i s h);
      apart = λ i j s u apart a b. apart_by i j s u apart (get_last w.seats t i s a) (get_last w.seats t j u b);
      members = λ i s a. member_by i s a.active (get_last w.seats t i s a.is);
      records = λ i d h. record_grows c creations more w v grows d (g.records i d h);
      numbers = g.numbers;
      messages = g.messages;
      pending = λ i s p a h. pending_by i s p a.active h (get_last w.seats t i s a.is);
    }
  where
    v : World
    v = with_new_member w n e t

    more : Creations
    more = creations ++ first_of first

    after : Entrant
    after = record { candidate = e.candidate; is_spent = true }

    key_of : Candidate → List ℕ
    key_of k = k.offered.leaf_node.signature_key

    grows : WorldGrows creations more w v
    grows = record {
      creations_grow = get_append creations (first_of first);
      made_grow = grows_none w.commits;
      messages_grow = grows_none w.messages;
      seats_go_on = λ i x h. record { after = x; is = get_append w.seats (t ∷ []) i x h; signing = refl; since = inl (same_itself x.member); keeps = keeps_same x.member x.member refl };
    }

    -- who stood at a place, with the same candidate
    was : (i : ℕ) (d : Entrant) → slice_get (slice_set w.entrants n after) i ≡ Some d → (b : Entrant) × (slice_get w.entrants i ≡ Some b) × (b.candidate ≡ d.candidate)
    was i d h = by_set (get_set w.entrants n after i d h)
      where
        by_set : ((i ≡ n) × (after ≡ d)) ⊎ ((i ≢ n) × (slice_get w.entrants i ≡ Some d)) → (b : Entrant) × (slice_get w.entrants i ≡ Some b) × (b.candidate ≡ d.candidate)
        by_set (inl x) = (e, ap (slice_get w.entrants) x.0 ∙ at, ap (λ (y : Entrant). y.candidate) x.1)
        by_set (inr x) = (d, x.1, refl)

    -- nobody was spent for a member that wasn't
    other_place : (s : Seat) (x : IsSpentFor w s) → x.place ≢ n
    other_place s x same =
        let here : slice_get w.entrants n ≡ Some x.entrant = ap (slice_get w.entrants) (sym same) ∙ x.is in
        let one : x.entrant ≡ e = one_there (slice_get w.entrants n) x.entrant e here at in
        true≢false (sym x.spent ∙ ap (λ (y : Entrant). y.is_spent) one ∙ unspent)

    spent_by : (i : ℕ) (s : Seat) → (slice_get w.seats i ≡ Some s) ⊎ ((i ≡ length w.seats) × (t ≡ s)) → IsSpentFor v s
    spent_by i s (inl h) = let x = g.spent i s h in record { place = x.place; entrant = x.entrant; is = set_other w.entrants n after x.place x.entrant (other_place s x) x.is; spent = x.spent; signing = x.signing }
    spent_by i s (inr h) = record { place = n; entrant = after; is = set_here w.entrants n after e at; spent = refl; signing = signing ∙ ap (λ (y : Seat). y.member.signing) h.1 }

    -- its signature key is another than that of each other member
    new_apart : (i : ℕ) (s : Seat) → slice_get w.seats i ≡ Some s → c.sig_public s.member.signing ≢ c.sig_public t.member.signing
    new_apart i s h same =
        let x = g.spent i s h in
        let a : x.entrant.candidate.offered.leaf_node.signature_key ≡ c.sig_public s.member.signing = (g.candidates x.place x.entrant x.is).signing ∙ ap c.sig_public x.signing in
        let b : e.candidate.offered.leaf_node.signature_key ≡ c.sig_public t.member.signing = (g.candidates n e at).signing ∙ ap c.sig_public signing in
        g.distinct x.place n x.entrant e (other_place s x) x.is at (a ∙ same ∙ sym b)

    apart_by : (i j : ℕ) (s u : Seat) → i ≢ j → (slice_get w.seats i ≡ Some s) ⊎ ((i ≡ length w.seats) × (t ≡ s)) → (slice_get w.seats j ≡ Some u) ⊎ ((j ≡ length w.seats) × (t ≡ u)) →
        c.sig_public s.member.signing ≢ c.sig_public u.member.signing
    apart_by i j s u apart (inl a) (inl b) same = g.apart i j s u apart a b same
    apart_by i j s u apart (inl a) (inr b) same = new_apart i s a (same ∙ ap (λ (y : Seat). c.sig_public y.member.signing) (sym b.1))
    apart_by i j s u apart (inr a) (inl b) same = new_apart j u b (sym same ∙ ap (λ (y : Seat). c.sig_public y.member.signing) (sym a.1))
    apart_by i j s u apart (inr a) (inr b) same = apart (a.0 ∙ sym b.0)

    member_by : (i : ℕ) (s : Seat) → s.member.gone ≡ false → (slice_get w.seats i ≡ Some s) ⊎ ((i ≡ length w.seats) × (t ≡ s)) → IsSeated c more v s
    member_by i s active (inl h) = seated_grows c creations more w v grows s (g.members i s (record { is = h; active = active }))
    member_by i s active (inr h) = subst (IsSeated c more v) h.1 (seated_by c more v t reached)

    pending_by : (i : ℕ) (s : Seat) (p : Pending) → s.member.gone ≡ false → s.member.pending ≡ Some p → (slice_get w.seats i ≡ Some s) ⊎ ((i ≡ length w.seats) × (t ≡ s)) → IsPendingOf v i s p
    pending_by i s p active q (inl h) = pending_grows w v (grows_none w.commits) i s p (g.pending i s p (record { is = h; active = active }) q)
    pending_by i s p active q (inr h) = absurd (none_there t.member.pending p free (ap (λ (y : Seat). y.member.pending) h.1 ∙ q))
