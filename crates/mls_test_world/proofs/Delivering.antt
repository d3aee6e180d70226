-- A commit and its Welcome, delivered event by event: from what the headline says of the world that each event finds.
use Rattle.std.proofs.Common.{◌≡◌, ℕ, zero, suc, ◌+◌, ◌<◌, ◌≤◌, ◌==◌, Bool, true, false, List, [], ◌∷◌, length, Option, Some, Result, Ok, Err, refl, sym, ap, subst, ◌∙◌, ◌⊎◌, inl, inr, slice_get, arith, eqb-true, true≢false}
use Rattle.std.specs.Prelude.{◌≢◌, IfOk}
use Rattle.std.specs.List.{AllByRecursion}
use Rattle.std.proofs.lemmas.Bool.{eqb-false}
use Rattle.std.proofs.lemmas.List.{take_all}
use Rattle.mls_suite.specs.Crypto.{Crypto}
use Rattle.mls_model.specs.declared.event.Event.{Event}
use Rattle.mls_model.specs.declared.event.Event.TheVariants as event
use Rattle.mls_model.specs.declared.event.Event.TheVariants.{Deliver, Join}
use Rattle.mls_model.specs.declared.event.Source.{Source}
use Rattle.mls_model.specs.declared.event.Source.TheVariants.{Given, Message}
use Rattle.mls_model.specs.declared.event.Reply.{Reply}
use Rattle.mls_model.specs.Answers.{Runs}
use Rattle.mls_model.specs.Agreement.{AgreeSecret, Keeps}
use Rattle.mls_model.proofs.CommitLaws.{names_are_held}
use Rattle.mls_model.specs.Headline.{IsActive, IsAdded, is_removed, Accepts, JoinsGroup, KeepsOthers, KeepsMembers, FollowsPending, Headline, HoldsAlong}
use Rattle.mls_model.specs.Journal.{Entry, CommitMade, IsHomemade, with_entry, list_in, entry_of}
use Rattle.mls_model.specs.Member.{Member}
use Rattle.mls_model.specs.Run.{step, run}
use Rattle.mls_model.specs.World.{World, Entrant, Seat, bytes_of, commit_for_joiner}
use Rattle.mls_test_world.specs.Deliveries.{HasPending, CanFollow, IsReceiver, IsWelcomeFor, IsDelivery, AreApart, EachOnce, IsNext, FollowsOrLeaves, TookPart, joins_in, CommitsReachAll}

-- ---- lists

one_there : {A : Type 0} (o : Option A) (x y : A) → o ≡ Some x → o ≡ Some y → x ≡ y
one_there o x y a b = cc

get_below : {A : Type 0} (xs : List A) (i : ℕ) (x : A) → slice_get xs i ≡ Some x → i < length xs
get_below [] i x h = absurd cc
get_below (y ∷ xs) zero x h = omega arith
get_below (y ∷ xs) (suc i) x h = let l = get_below xs i x h in omega arith

all_at : {A : Type 0} (P : A → Type 0) (xs : List A) (i : ℕ) (x : A) → AllByRecursion P xs → slice_get xs i ≡ Some x → P x
all_at P [] i x all h = absurd cc
all_at P (y ∷ xs) zero x all h = let same : y ≡ x = cc in subst P same all.0
all_at P (y ∷ xs) (suc i) x all h = all_at P xs i x all.1 h

all_both : {A : Type 0} (P Q R : A → Type 0) → ((x : A) → P x → Q x → R x) → (xs : List A) → AllByRecursion P xs → AllByRecursion Q xs → AllByRecursion R xs
all_both P Q R f [] p q = tt
all_both P Q R f (x ∷ xs) p q = (f x p.0 q.0, all_both P Q R f xs p.1 q.1)

all_map : {A : Type 0} (P R : A → Type 0) → ((x : A) → P x → R x) → (xs : List A) → AllByRecursion P xs → AllByRecursion R xs
all_map P R f [] p = tt
all_map P R f (x ∷ xs) p = (f x p.0, all_map P R f xs p.1)

equal_or_apart : (i j : ℕ) (b : Bool) → (i == j) ≡ b → (i ≡ j) ⊎ (i ≢ j)
equal_or_apart i j true e = inl (eqb-true i j e)
equal_or_apart i j false e = inr (eqb-false i j e)

-- ---- a world that is the same where a delivery looks

bytes_alike : (w v : World) (source : Source) → v.messages ≡ w.messages → bytes_of v source ≡ bytes_of w source
bytes_alike w v (Given given) e = refl
bytes_alike w v (Message n) e = ap (λ (ms : List (List ℕ)). bytes_of (record w { messages = ms }) (Message n)) e

receiver_alike : (w v : World) (d : CommitMade) (k : ℕ) (s : Seat) → slice_get v.seats k ≡ slice_get w.seats k → IsReceiver w d k s → IsReceiver v d k s
receiver_alike w v d k s e r = record { active = record { is = e ∙ r.active.is; active = r.active.active }; journal = r.journal; can = r.can }

added_alike : (w v : World) (d : CommitMade) (n : ℕ) (e : Entrant) → slice_get v.entrants n ≡ slice_get w.entrants n → IsAdded w n e d → IsAdded v n e d
added_alike w v d n e same a = record { is = same ∙ a.is; unspent = a.unspent; adds = a.adds }

welcome_alike : (w v : World) (d : CommitMade) (e : Entrant) (source : Source) → v.commits ≡ w.commits → IsWelcomeFor w d e source → IsWelcomeFor v d e source
welcome_alike w v d e (Given given) same h = (h.0, ap (λ (made : List CommitMade). commit_for_joiner made (Given given) e.candidate) same ∙ h.1)
welcome_alike w v d e (Message n) same h = h

-- after a delivery
delivery_on : (w v : World) (d : CommitMade) (k : ℕ) (source : Source) → KeepsOthers w v k → (e : Event) → IsDelivery w d e → AreApart (Deliver k source) e → IsDelivery v d e
delivery_on w v d k source o (Deliver l given) x apart =
    ((x.0.0, receiver_alike w v d l x.0.0 (o.seats l (λ e. apart (sym e))) x.0.1), bytes_alike w v given o.messages ∙ x.1)
delivery_on w v d k source o (Join n given) x apart =
    (x.0, added_alike w v d n x.0 (ap (λ (es : List Entrant). slice_get es n) o.entrants) x.1, welcome_alike w v d x.0 given o.made x.2)
delivery_on w v d k source o (event.Candidate identity seed) x apart = absurd x
delivery_on w v d k source o (event.Create n group seed) x apart = absurd x
delivery_on w v d k source o (event.ProposeAdd l given) x apart = absurd x
delivery_on w v d k source o (event.ProposeUpdate l seed) x apart = absurd x
delivery_on w v d k source o (event.ProposeRemove l leaf) x apart = absurd x
delivery_on w v d k source o (event.ProposeExtensions l list) x apart = absurd x
delivery_on w v d k source o (event.Commit l items path seed) x apart = absurd x
delivery_on w v d k source o (event.DropPending l) x apart = absurd x

-- after a join
join_on : (w v : World) (d : CommitMade) (m : ℕ) (source : Source) → KeepsMembers w v m → (e : Event) → IsDelivery w d e → AreApart (Join m source) e → IsDelivery v d e
join_on w v d m source o (Deliver l given) x apart =
    ((x.0.0, receiver_alike w v d l x.0.0 (o.seats l (get_below w.seats l x.0.0 x.0.1.active.is)) x.0.1), bytes_alike w v given o.messages ∙ x.1)
join_on w v d m source o (Join n given) x apart = (x.0, added_alike w v d n x.0 (o.entrants n (λ e. apart (sym e))) x.1, welcome_alike w v d x.0 given o.made x.2)
join_on w v d m source o (event.Candidate identity seed) x apart = absurd x
join_on w v d m source o (event.Create n group seed) x apart = absurd x
join_on w v d m source o (event.ProposeAdd l given) x apart = absurd x
join_on w v d m source o (event.ProposeUpdate l seed) x apart = absurd x
join_on w v d m source o (event.ProposeRemove l leaf) x apart = absurd x
join_on w v d m source o (event.ProposeExtensions l list) x apart = absurd x
join_on w v d m source o (event.Commit l items path seed) x apart = absurd x
join_on w v d m source o (event.DropPending l) x apart = absurd x

-- ---- whom an event isn't for

abbrev IsForOther : ℕ → Event → Type 0
IsForOther k (Deliver l source) = l ≢ k
IsForOther k other = Unit {0}

-- later deliveries are for others
apart_other : (k : ℕ) (source : Source) (e : Event) → AreApart (Deliver k source) e → IsForOther k e
apart_other k source (Deliver l given) apart = λ e. apart (sym e)
apart_other k source (Join n given) apart = tt
apart_other k source (event.Candidate identity seed) apart = tt
apart_other k source (event.Create n group seed) apart = tt
apart_other k source (event.ProposeAdd l given) apart = tt
apart_other k source (event.ProposeUpdate l seed) apart = tt
apart_other k source (event.ProposeRemove l leaf) apart = tt
apart_other k source (event.ProposeExtensions l list) apart = tt
apart_other k source (event.Commit l items path seed) apart = tt
apart_other k source (event.DropPending l) apart = tt

-- and for members that are there already
there_other : (w : World) (d : CommitMade) (e : Event) → IsDelivery w d e → IsForOther (length w.seats) e
there_other w d (Deliver l source) x = λ e. let below = get_below w.seats l x.0.0 x.0.1.active.is in omega (arith, below, e)
there_other w d (Join n source) x = tt
there_other w d (event.Candidate identity seed) x = absurd x
there_other w d (event.Create n group seed) x = absurd x
there_other w d (event.ProposeAdd l given) x = absurd x
there_other w d (event.ProposeUpdate l seed) x = absurd x
there_other w d (event.ProposeRemove l leaf) x = absurd x
there_other w d (event.ProposeExtensions l list) x = absurd x
there_other w d (event.Commit l items path seed) x = absurd x
there_other w d (event.DropPending l) x = absurd x

-- ---- what one delivery does

entry_is : (m : Member) (e : Entry) → Keeps m.kept (list_in e.commit) e.named_messages → entry_of m e.commit ≡ e
unfolding entry_of
entry_is m e keeps = ap (λ (names : List (List ℕ)). entry_with e.commit names) (names_are_held m.kept (list_in e.commit) e.named_messages keeps)
  where
    entry_with : List ℕ → List (List ℕ) → Entry
    entry_with commit names = record { commit = commit; named_messages = names }

journal_is : (s : Seat) (d : CommitMade) (p : List ℕ) → s.journal ≡ d.journal → p ≡ d.entry.commit → Keeps s.member.kept (list_in d.entry.commit) d.entry.named_messages → with_entry s.journal (entry_of s.member p) ≡ with_entry d.journal d.entry
journal_is s d p journal same keeps =
    ap (λ (b : List ℕ). with_entry s.journal (entry_of s.member b)) same
    ∙ ap (λ (e : Entry). with_entry s.journal e) (entry_is s.member d.entry keeps)
    ∙ ap (λ j. with_entry j d.entry) journal

abbrev found : List ℕ → Result (List ℕ) ℕ
found bytes = Ok bytes

own_delivery : (c : Crypto) (w : World) (place : ℕ) (d : CommitMade) (k : ℕ) (s : Seat) (source : Source) → Headline c w → slice_get w.commits place ≡ Some d → IsActive w k s → s.journal ≡ d.journal → k ≡ d.maker → HasPending s d → bytes_of w source ≡ Ok d.entry.commit →
    IsNext (step c w (Deliver k source)).1 d k
own_delivery c w place d k s source h made a journal own p b =
    let maker : IsActive w d.maker s = subst (λ (i : ℕ). IsActive w i s) own a in
    let f : FollowsPending c w k s p.pending source = h.own k s p.pending source a p.is (b ∙ ap found (sym p.message)) in
    let keeps : Keeps s.member.kept (list_in d.entry.commit) d.entry.named_messages = h.names place d s made maker journal in
    record { seat = f.after; active = f.is_after; journal = f.journal ∙ journal_is s d p.pending.message journal p.message keeps; epoch = f.epoch ∙ p.epoch }

delivered_to : (c : Crypto) (w : World) (place : ℕ) (d : CommitMade) (k : ℕ) (s : Seat) (source : Source) → Headline c w → slice_get w.commits place ≡ Some d → IsHomemade w.commits d.journal → IsReceiver w d k s → bytes_of w source ≡ Ok d.entry.commit →
    FollowsOrLeaves (step c w (Deliver k source)).1 d k s
delivered_to c w place d k s source h made home r b = by_maker r.can
  where
    by_accepts : (x : Bool) → is_removed s d ≡ x → Accepts c w k s source d → FollowsOrLeaves (step c w (Deliver k source)).1 d k s
    by_accepts true e x = let l = x.removed e in inr (e, record { seat = l.after; is = l.is_after; gone = l.gone })
    by_accepts false e x = let f = x.follows e in inl (inr e, record { seat = f.after; active = f.is_after; journal = f.journal ∙ ap (λ j. with_entry j d.entry) r.journal; epoch = f.epoch })

    by_maker : CanFollow k s d → FollowsOrLeaves (step c w (Deliver k source)).1 d k s
    by_maker (inl own) = inl (inl own.0, own_delivery c w place d k s source h made r.active r.journal own.0 own.1 b)
    by_maker (inr other) = by_accepts (is_removed s d) refl (h.accepted k s source d (record { place = place; made = made; homemade = home; active = r.active; other = other.0; journal = r.journal; keeps = other.1; bytes = b }))

joined_to : (c : Crypto) (w : World) (place : ℕ) (d : CommitMade) (n : ℕ) (e : Entrant) (source : Source) → Headline c w → slice_get w.commits place ≡ Some d → IsAdded w n e d → IsWelcomeFor w d e source → JoinsGroup c w n source d
joined_to c w place d n e (Message m) h made added x = h.joined_by_number place n m x.0 d e made x.1 added
joined_to c w place d n e (Given given) h made added x =
    let j = h.joined_by_bytes place n x.0.0 given.items (Given given) d e made x.0.1 refl added in
    subst (λ (f : CommitMade). JoinsGroup c w n (Given given) f) (one_there (commit_for_joiner w.commits (Given given) e.candidate) j.0 d j.1 x.1) j.2

-- ---- what stays of it

next_on : (w v : World) (d : CommitMade) (k : ℕ) → slice_get v.seats k ≡ slice_get w.seats k → IsNext w d k → IsNext v d k
next_on w v d k e x = record { seat = x.seat; active = record { is = e ∙ x.active.is; active = x.active.active }; journal = x.journal; epoch = x.epoch }

outcome_on : (w v : World) (d : CommitMade) (k : ℕ) (s : Seat) → slice_get v.seats k ≡ slice_get w.seats k → FollowsOrLeaves w d k s → FollowsOrLeaves v d k s
outcome_on w v d k s e (inl x) = inl (x.0, next_on w v d k e x.1)
outcome_on w v d k s e (inr x) = inr (x.0, record { seat = x.1.seat; is = e ∙ x.1.is; gone = x.1.gone })

-- ---- a list of events

record Progress (w v : World) (d : CommitMade) (events : List Event) : Type 0 where
  kept : (k : ℕ) → k < length w.seats → AllByRecursion (IsForOther k) events → slice_get v.seats k ≡ slice_get w.seats k
  receivers : (k i : ℕ) (source : Source) (s : Seat) → slice_get events i ≡ Some (Deliver k source) → slice_get w.seats k ≡ Some s → FollowsOrLeaves v d k s
  count : length v.seats ≡ length w.seats + joins_in events
  joiners : (k : ℕ) → length w.seats ≤ k → k < length v.seats → IsNext v d k

none_yet : (w : World) (d : CommitMade) → Progress w w d []
unfolding joins_in
none_yet w d = record {
  kept = λ k below others. refl;
  receivers = λ k i source s h at. absurd cc;
  count = omega arith;
  joiners = λ k ge lt. absurd (omega (arith, ge, lt));
}

same_event : (k l : ℕ) (x y : Source) → Path Event (Deliver k x) (Deliver l y) → k ≡ l
same_event k l x y e = cc

some_same : (e f : Event) → Path (Option Event) (Some e) (Some f) → e ≡ f
some_same e f h = cc

after_delivery : (w u v : World) (d : CommitMade) (k : ℕ) (s : Seat) (source : Source) (es : List Event) → KeepsOthers w u k → IsActive w k s → FollowsOrLeaves u d k s → AllByRecursion (AreApart (Deliver k source)) es → Progress u v d es →
    Progress w v d (Deliver k source ∷ es)
unfolding joins_in
after_delivery w u v d k s source es o a did apart rest =
    record {
      kept = λ l below others. rest.kept l (let c = o.count in omega (arith, below, c)) others.1 ∙ o.seats l (λ e. others.0 (sym e));
      receivers = receivers;
      count = let c = o.count in let r = rest.count in omega (arith, c, r);
      joiners = λ l ge lt. rest.joiners l (let c = o.count in omega (arith, ge, c)) lt;
    }
  where
    stays : slice_get v.seats k ≡ slice_get u.seats k
    stays = rest.kept k (let c = o.count in let b = get_below w.seats k s a.is in omega (arith, b, c)) (all_map (AreApart (Deliver k source)) (IsForOther k) (apart_other k source) es apart)

    receivers : (l i : ℕ) (x : Source) (t : Seat) → slice_get (Deliver k source ∷ es) i ≡ Some (Deliver l x) → slice_get w.seats l ≡ Some t → FollowsOrLeaves v d l t
    receivers l zero x t h at =
        let one : k ≡ l = same_event k l source x (some_same (Deliver k source) (Deliver l x) h) in
        let seat : s ≡ t = one_there (slice_get w.seats k) s t a.is (ap (slice_get w.seats) one ∙ at) in
        subst (λ (i : ℕ). FollowsOrLeaves v d i t) one (subst (λ (y : Seat). FollowsOrLeaves v d k y) seat (outcome_on u v d k s stays did))
    receivers l (suc i) x t h at =
        let other : k ≢ l = all_at (AreApart (Deliver k source)) es i (Deliver l x) apart h in
        rest.receivers l i x t h (o.seats l (λ e. other (sym e)) ∙ at)

not_a_join : (n l : ℕ) (x y : Source) → Path (Option Event) (Some (Join n x)) (Some (Deliver l y)) → ⊥
not_a_join n l x y e = cc

after_join : (w u v : World) (d : CommitMade) (n : ℕ) (source : Source) (es : List Event) → KeepsMembers w u n → length u.seats ≡ length w.seats + 1 → IsNext u d (length w.seats) → AllByRecursion (IsDelivery w d) es → Progress u v d es →
    Progress w v d (Join n source ∷ es)
unfolding joins_in
after_join w u v d n source es o more did each rest =
    record {
      kept = λ l below others. rest.kept l (omega (arith, below, more)) others.1 ∙ o.seats l below;
      receivers = receivers;
      count = let r = rest.count in omega (arith, more, r);
      joiners = λ l ge lt. joiners l ge lt (equal_or_apart (length w.seats) l (length w.seats == l) refl);
    }
  where
    receivers : (l i : ℕ) (x : Source) (t : Seat) → slice_get (Join n source ∷ es) i ≡ Some (Deliver l x) → slice_get w.seats l ≡ Some t → FollowsOrLeaves v d l t
    receivers l zero x t h at = absurd (not_a_join n l source x h)
    receivers l (suc i) x t h at = rest.receivers l i x t h (o.seats l (get_below w.seats l t at) ∙ at)

    stays : slice_get v.seats (length w.seats) ≡ slice_get u.seats (length w.seats)
    stays = rest.kept (length w.seats) (omega (arith, more)) (all_map (IsDelivery w d) (IsForOther (length w.seats)) (there_other w d) es each)

    joiners : (l : ℕ) → length w.seats ≤ l → l < length v.seats → (length w.seats ≡ l) ⊎ (length w.seats ≢ l) → IsNext v d l
    joiners l ge lt (inl e) = subst (IsNext v d) e (next_on u v d (length w.seats) stays did)
    joiners l ge lt (inr apart) = rest.joiners l (omega (arith, ge, apart, more)) lt

holds_now : (c : Crypto) (w : World) (es : List Event) → HoldsAlong c w es → Headline c w
unfolding run
holds_now c w [] h = h 0
holds_now c w (e ∷ es) h = h 0

holds_on : (c : Crypto) (w : World) (e : Event) (es : List Event) → HoldsAlong c w (e ∷ es) → HoldsAlong c (step c w e).1 es
unfolding run
holds_on c w e es h n = h (suc n)

progress : (c : Crypto) (d : CommitMade) (place : ℕ) (es : List Event) (w : World) → slice_get w.commits place ≡ Some d → IsHomemade w.commits d.journal → HoldsAlong c w es → AllByRecursion (IsDelivery w d) es → EachOnce es → Progress w (run c w es) d es
unfolding run EachOnce
progress c d place [] w made home h each once = none_yet w d
progress c d place (Deliver k source ∷ es) w made home h each once =
    let x = each.0 in
    let now : Headline c w = holds_now c w (Deliver k source ∷ es) h in
    let u : World = (step c w (Deliver k source)).1 in
    let o : KeepsOthers w u k = now.delivered k source in
    let did : FollowsOrLeaves u d k x.0.0 = delivered_to c w place d k x.0.0 source now made home x.0.1 x.1 in
    let rest : Progress u (run c u es) d es = progress c d place es u
    (ap (λ (m : List CommitMade). slice_get m place) o.made ∙ made) (subst (λ (m : List CommitMade). IsHomemade m d.journal) (sym o.made) home) (holds_on c w (Deliver k source) es h)
    (all_both (IsDelivery w d) (AreApart (Deliver k source)) (IsDelivery u d) (delivery_on w u d k source o) es each.1 once.0) once.1 in
    after_delivery w u (run c u es) d k x.0.0 source es o x.0.1.active did once.0 rest
progress c d place (Join n source ∷ es) w made home h each once =
    let x = each.0 in
    let now : Headline c w = holds_now c w (Join n source ∷ es) h in
    let u : World = (step c w (Join n source)).1 in
    let o : KeepsMembers w u n = now.joined n source in
    let j : JoinsGroup c w n source d = joined_to c w place d n x.0 source now made x.1 x.2 in
    let did : IsNext u d (length w.seats) = record { seat = j.after; active = j.is_after; journal = j.journal; epoch = j.epoch } in
    let rest : Progress u (run c u es) d es = progress c d place es u
    (ap (λ (m : List CommitMade). slice_get m place) o.made ∙ made) (subst (λ (m : List CommitMade). IsHomemade m d.journal) (sym o.made) home) (holds_on c w (Join n source) es h)
    (all_both (IsDelivery w d) (AreApart (Join n source)) (IsDelivery u d) (join_on w u d n source o) es each.1 once.0) once.1 in
    after_join w u (run c u es) d n source es o j.one_more did each.1 rest
progress c d place (event.Candidate identity seed ∷ es) w made home h each once = absurd each.0
progress c d place (event.Create n group seed ∷ es) w made home h each once = absurd each.0
progress c d place (event.ProposeAdd l given ∷ es) w made home h each once = absurd each.0
progress c d place (event.ProposeUpdate l seed ∷ es) w made home h each once = absurd each.0
progress c d place (event.ProposeRemove l leaf ∷ es) w made home h each once = absurd each.0
progress c d place (event.ProposeExtensions l list ∷ es) w made home h each once = absurd each.0
progress c d place (event.Commit l items path seed ∷ es) w made home h each once = absurd each.0
progress c d place (event.DropPending l ∷ es) w made home h each once = absurd each.0

-- ---- all that took part

holds_last : (c : Crypto) (w : World) (es : List Event) → HoldsAlong c w es → Headline c (run c w es)
holds_last c w es h = subst (λ (l : List Event). Headline c (run c w l)) (take_all (length es) es (omega arith)) (h (length es))

agree_epochs : (m n : Member) → m.epoch_secret ≡ n.epoch_secret → AgreeSecret m n
agree_epochs m n e = record { epoch = e; nine = cc }

all_agree : (c : Crypto) (w : World) (events : List Event) → HoldsAlong c w events → CommitsReachAll w events (run c w events)
all_agree c w events h d x =
    record {
      receivers = λ k s to at. p.receivers k to.place to.source s to.is at;
      count = p.count;
      joiners = p.joiners;
      public = λ i j s t a b is it. last.public i j s t is it ((where_it_stands i s a is).0 ∙ sym (where_it_stands j t b it).0);
      secret = λ i j s t a b is it. agree_epochs s.member t.member ((where_it_stands i s a is).1 ∙ sym (where_it_stands j t b it).1);
    }
  where
    v : World
    v = run c w events

    p : Progress w v d events
    p = progress c d x.place events w x.made x.homemade h x.each x.once

    last : Headline c v
    last = holds_last c w events h

    at_next : (k : ℕ) (s : Seat) → IsActive v k s → IsNext v d k → (s.journal ≡ with_entry d.journal d.entry) × (s.member.epoch_secret ≡ d.epoch_secret)
    at_next k s a n =
        let one : n.seat ≡ s = one_there (slice_get v.seats k) n.seat s n.active.is a.is in
        (ap (λ (t : Seat). t.journal) (sym one) ∙ n.journal, ap (λ (t : Seat). t.member.epoch_secret) (sym one) ∙ n.epoch)

    by_outcome : (k : ℕ) (s t : Seat) → IsActive v k s → FollowsOrLeaves v d k t → (s.journal ≡ with_entry d.journal d.entry) × (s.member.epoch_secret ≡ d.epoch_secret)
    by_outcome k s t a (inl n) = at_next k s a n.1
    by_outcome k s t a (inr g) =
        let one : g.1.seat ≡ s = one_there (slice_get v.seats k) g.1.seat s g.1.is a.is in
        absurd (true≢false (sym g.1.gone ∙ ap (λ (y : Seat). y.member.gone) one ∙ a.active))

    where_it_stands : (k : ℕ) (s : Seat) → TookPart w events k → IsActive v k s → (s.journal ≡ with_entry d.journal d.entry) × (s.member.epoch_secret ≡ d.epoch_secret)
    where_it_stands k s (inl to) a =
        let r = all_at (IsDelivery w d) events to.place (Deliver k to.source) x.each to.is in
        by_outcome k s r.0.0 a (p.receivers k to.place to.source r.0.0 to.is r.0.1.active.is)
    where_it_stands k s (inr new) a = at_next k s a (p.joiners k new (get_below v.seats k s a.is))

commits_reach_all : (c : Crypto) (w v : World) (events : List Event) → HoldsAlong c w events → v ≡ run c w events → CommitsReachAll w events v
commits_reach_all c w v events h is = subst (CommitsReachAll w events) (sym is) (all_agree c w events h)

-- by what `run` promises of a list of events: all ran, or memory ran out
pub reach_if_all_ran : {E : Type 0} (c : Crypto) (w v : World) (events : List Event) (before after : List Reply) (r : Result (Unit {0}) E) → HoldsAlong c w events → Runs c events w v before after r → IfOk r (λ (x : Unit {0}). CommitsReachAll w events v)
reach_if_all_ran c w v events before after (Ok x) h ran = commits_reach_all c w v events h ran.0
reach_if_all_ran c w v events before after (Err e) h ran = tt
