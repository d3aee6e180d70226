-- The states that a member passed along its journal.
use Rattle.std.proofs.Common.{◌≡◌, ℕ, List, [], ◌∷◌, Some, ap, sym, ◌∙◌, subst, inl, inr}
use Rattle.mls_suite.specs.Crypto.{Crypto}
use Rattle.mls_model.specs.declared.origin.Origin.{Origin}
use Rattle.mls_model.specs.declared.origin.Origin.TheVariants.{Creation, GroupInfo as JoinedBy}
use Rattle.mls_model.specs.MemberInvariant.{IsGoodMember}
use Rattle.mls_model.specs.Invariant.{IsSeated}
use Rattle.mls_model.specs.Journal.{Entry, Journal, CommitMade, MadeHere, names_in}
use Rattle.mls_model.specs.Lineage.{IsSameState, Begins, IsReachedOver, IsReached}
use Rattle.mls_model.specs.Member.{Member}
use Rattle.mls_model.specs.JournalState.{Creations}
use Rattle.mls_model.specs.World.{World, Seat}
use Rattle.mls_theorems.specs.Journals.{StandsAtJournal}
use Rattle.mls_theorems.proofs.Journals.{creations_along, joins_along, joins_here_along, deliveries_along, states_along}
use Rattle.mls_theorems.proofs.Homemade.{entry_with}
use Rattle.mls_theorems.specs.Lists.{Grows}
use Rattle.mls_theorems.specs.PastStates.{PastGrows, PastAlong}

-- ---- one state

pub same_back : (m n : Member) → IsSameState m n → IsSameState n m
same_back m n s = record { public = sym s.public; epoch = sym s.epoch; keys = sym s.keys; signing = sym s.signing }

pub same_on : (l m n : Member) → IsSameState l m → IsSameState m n → IsSameState l n
same_on l m n a b = record { public = a.public ∙ b.public; epoch = a.epoch ∙ b.epoch; keys = a.keys ∙ b.keys; signing = a.signing ∙ b.signing }

begins_same : (c : Crypto) (creations : Creations) (origin : Origin) (m n : Member) → IsSameState m n → Begins c creations origin m → Begins c creations origin n
begins_same c creations (Creation k) m n s b = record { first = b.first; is = b.is; same = same_on b.first m n b.same s }
begins_same c creations (JoinedBy info) m n s b = record { candidate = b.candidate; bytes = b.bytes; joined = b.joined; is = b.is; info_is = b.info_is; same = same_on b.joined.member m n b.same s }

steps_same : (c : Crypto) (made : List CommitMade) (j : Journal) (before : Member) (e : Entry) (m n : Member) → IsSameState m n → IsReachedOver c made j before e m → IsReachedOver c made j before e n
steps_same c made j before e m n s (inl f) = inl (record { free = f.free; epoch = f.epoch; after = f.after; is = f.is; entry = f.entry; same = same_on f.after m n f.same s })
steps_same c made j before e m n s (inr (inl f)) =
    inr (inl (record { which = f.which; here = f.here; reaches = f.reaches ∙ s.epoch; epoch = f.epoch; after = f.after; is = f.is; entry = f.entry; same = same_on f.after m n f.same s }))
steps_same c made j before e m n s (inr (inr f)) = inr (inr (record {
  which = f.which;
  here = f.here;
  list = f.list;
  call = f.call;
  is_made = f.is_made;
  commit = f.commit;
  names = f.names;
  epoch = f.epoch;
  candidate = f.candidate;
  welcome = f.welcome;
  joins = f.joins;
  same = same_on f.joins.joined.member m n f.same s;
}))

-- a good member in a state that was reached, whatever it keeps
pub reached_same : (c : Crypto) (creations : Creations) (made : List CommitMade) (origin : Origin) (es : List Entry) (m n : Member) → IsSameState m n → IsGoodMember c n →
    IsReached c creations made origin es m → IsReached c creations made origin es n
unfolding IsReached
reached_same c creations made origin [] m n s good r = (begins_same c creations origin m n s r.0, good)
reached_same c creations made origin (e ∷ es) m n s good r = (r.0, r.1, good, steps_same c made (record { origin = origin; entries = es }) r.0 e m n s r.3)

pub reached_good : (c : Crypto) (creations : Creations) (made : List CommitMade) (origin : Origin) (es : List Entry) (m : Member) → IsReached c creations made origin es m → IsGoodMember c m
unfolding IsReached
reached_good c creations made origin [] m r = r.1
reached_good c creations made origin (e ∷ es) m r = r.2

-- ---- a world that grows

begins_grow : (c : Crypto) (creations more : Creations) → Grows creations more → (origin : Origin) (m : Member) → Begins c creations origin m → Begins c more origin m
begins_grow c creations more g (Creation k) m b = record { first = b.first; is = g k (Some b.first) b.is; same = b.same }
begins_grow c creations more g (JoinedBy info) m b = b

pub here_grows : (made more : List CommitMade) → Grows made more → (j : Journal) (e : Entry) (d : CommitMade) → MadeHere made j e d → MadeHere more j e d
here_grows made more g j e d h = record { place = h.place; is = g h.place d h.is; journal = h.journal; entry = h.entry }

steps_grow : (c : Crypto) (made more : List CommitMade) → Grows made more → (j : Journal) (before : Member) (e : Entry) (m : Member) → IsReachedOver c made j before e m → IsReachedOver c more j before e m
steps_grow c made more g j before e m (inl f) = inl f
steps_grow c made more g j before e m (inr (inl f)) =
    inr (inl (record { which = f.which; here = here_grows made more g j e f.which f.here; reaches = f.reaches; epoch = f.epoch; after = f.after; is = f.is; entry = f.entry; same = f.same }))
steps_grow c made more g j before e m (inr (inr f)) = inr (inr (record {
  which = f.which;
  here = here_grows made more g j e f.which f.here;
  list = f.list;
  call = f.call;
  is_made = f.is_made;
  commit = f.commit;
  names = f.names;
  epoch = f.epoch;
  candidate = f.candidate;
  welcome = f.welcome;
  joins = f.joins;
  same = f.same;
}))

pub past_grows : PastGrows
unfolding IsReached
past_grows c creations creations' made made' g h origin [] m r = (begins_grow c creations creations' g origin m r.0, r.1)
past_grows c creations creations' made made' g h origin (e ∷ es) m r =
    (r.0, past_grows c creations creations' made made' g h origin es r.0 r.1, r.2, steps_grow c made made' h (record { origin = origin; entries = es }) r.0 e m r.3)

begins_along : (c : Crypto) (creations : Creations) (origin : Origin) (m : Member) → Begins c creations origin m → StandsAtJournal c creations origin [] m
begins_along c creations (Creation k) m b = states_along c creations (Creation k) [] b.first m b.same (creations_along c creations k b.first b.is)
begins_along c creations (JoinedBy info) m b =
    states_along c creations (JoinedBy info) [] b.joined.member m b.same
    (subst (λ (i : List ℕ). StandsAtJournal c creations (JoinedBy i) [] b.joined.member) b.info_is (joins_along c creations b.candidate b.bytes b.joined b.is))

entry_by : (e : Entry) (commit : List ℕ) (names : List (List ℕ)) → commit ≡ e.commit → names ≡ e.named_messages → entry_with commit names ≡ e
entry_by e commit names a b = ap (λ (x : List ℕ). entry_with x names) a ∙ ap (λ (x : List (List ℕ)). entry_with e.commit x) b

steps_along : (c : Crypto) (creations : Creations) (made : List CommitMade) (origin : Origin) (es : List Entry) (before : Member) (e : Entry) (m : Member) → IsGoodMember c before → StandsAtJournal c creations origin es before →
    IsReachedOver c made (record { origin = origin; entries = es }) before e m → StandsAtJournal c creations origin (e ∷ es) m
steps_along c creations made origin es before e m good along (inl f) =
    states_along c creations origin (e ∷ es) f.after m f.same
    (subst (λ (x : Entry). StandsAtJournal c creations origin (x ∷ es) f.after) f.entry (deliveries_along c creations origin es before e.commit f.epoch f.after good along f.is))
steps_along c creations made origin es before e m good along (inr (inl f)) =
    states_along c creations origin (e ∷ es) f.after m f.same
    (subst (λ (x : Entry). StandsAtJournal c creations origin (x ∷ es) f.after) f.entry (deliveries_along c creations origin es before e.commit f.epoch f.after good along f.is))
steps_along c creations made origin es before e m good along (inr (inr f)) =
    states_along c creations origin (e ∷ es) f.joins.joined.member m f.same
    (subst (λ (x : Entry). StandsAtJournal c creations origin (x ∷ es) f.joins.joined.member) (entry_by e f.call.commit (names_in before.kept f.list) f.commit f.names)
    (joins_here_along c creations origin es before f.list f.call f.candidate f.welcome f.joins along f.is_made))

pub past_along : PastAlong
unfolding IsReached
past_along c creations made origin [] m r = begins_along c creations origin m r.0
past_along c creations made origin (e ∷ es) m r =
    steps_along c creations made origin es r.0 e m (reached_good c creations made origin es r.0 r.1) (past_along c creations made origin es r.0 r.1) r.3

-- so it is all that is asked of an active member
pub seated_by : (c : Crypto) (creations : Creations) (w : World) (s : Seat) → IsReached c creations w.commits s.journal.origin s.journal.entries s.member → IsSeated c creations w s
seated_by c creations w s r =
    let along = past_along c creations w.commits s.journal.origin s.journal.entries s.member r in
    record { good = reached_good c creations w.commits s.journal.origin s.journal.entries s.member r; public = along.public; tagged = along.tagged; reached = r }
