-- A good world is kept by a join, by a Welcome that was made here or by any other.
use Rattle.std.proofs.Common.{◌≡◌, ℕ, true, false, ◌&&◌, List, [], ◌∷◌, ◌++◌, Option, Some, None, Result, Ok, refl, sym, ap, subst, ◌∙◌, inr, slice_get, eqb-true, true≢false}
use Rattle.std.specs.Prelude.{option_map}
use Rattle.std.specs.List.{list_any}
use Rattle.std.specs.Str.{bytes_eq}
use Rattle.std.proofs.lemmas.Bool.{and_parts}
use Rattle.std.proofs.lemmas.Slice.Eq.{bytes_eq-Decides}
use Rattle.mls_wire.proofs.CheckLaws.{bind_ok, given_ok}
use Rattle.mls_wire.specs.Laws.{ok_is}
use Rattle.mls_leaf.specs.KeyPackage.{key_package}
use Rattle.mls_suite.specs.Crypto.{Crypto, Lawful}
use Rattle.mls_model.specs.declared.event.Reply.{Reply}
use Rattle.mls_model.specs.declared.event.Source.{Source}
use Rattle.mls_model.specs.declared.event.Source.TheVariants.{Given, Message}
use Rattle.mls_model.specs.declared.origin.Origin.TheVariants as from
use Rattle.mls_model.specs.MemberInvariant.{IsGoodCandidate}
use Rattle.mls_model.specs.WorldCalls.{join_answer}
use Rattle.mls_model.specs.Candidate.{Candidate}
use Rattle.mls_model.specs.Claims.{JoinsTo}
use Rattle.mls_model.specs.Invariant.{IsRecorded, IsGoodBy, IsGoodWorld}
use Rattle.mls_model.specs.Join.{JoinedMember, join_verdict}
use Rattle.mls_model.specs.Journal.{CommitMade}
use Rattle.mls_model.specs.Lineage.{IsSameState, IsReached}
use Rattle.mls_model.specs.OpenedWelcome.{Opened, opened_welcome}
use Rattle.mls_model.specs.JournalState.{Creations}
use Rattle.mls_model.specs.World.{World, Seat, entrant_at, bytes_of, has_source, commit_for_joiner, joiner_journal}
use Rattle.mls_theorems.proofs.Entered.{MemberDid, member_did, joined_by, joined_good}
use Rattle.mls_theorems.proofs.Joiners.{joiners_hold}
use Rattle.mls_theorems.proofs.Journals.{same_itself}
use Rattle.mls_theorems.proofs.Beginning.{IsUnspent, entrant_did}
use Rattle.mls_theorems.proofs.Entering.{one_more}
use Rattle.mls_theorems.proofs.Keeping.{to_world}
use Rattle.mls_theorems.proofs.Lists.{one_there, get_append, grows_none, find_stands}
use Rattle.mls_theorems.proofs.Past.{past_grows}

-- ---- a new member

pub record JoinedDid (k : Candidate) (j : JoinedMember) : Type 0 where
  pub active : j.member.gone ≡ false
  pub signing : k.signing ≡ j.member.signing
  pub free : j.member.pending ≡ None

by_parts : (k : Candidate) (o : Opened) (c : Crypto) (j : JoinedMember) → MemberDid c k o j → JoinedDid k j
unfolding joined_by
by_parts k o c j d = subst (JoinedDid k) d.is (record { active = refl; signing = refl; free = refl })

pub joined_did : (c : Crypto) (k : Candidate) (bytes : List ℕ) (j : JoinedMember) → join_verdict c k bytes ≡ Ok j → JoinedDid k j
unfolding join_verdict
joined_did c k bytes j h = let s = bind_ok (opened_welcome c k bytes) _ _ h in by_parts k s.0 c j (member_did c k s.0 j s.2)

-- ---- the commit whose Welcome it joined by

abbrev pub welcome_with : ℕ → List ℕ → Option (ℕ × List ℕ)
welcome_with n x = Some (n, x)

-- it was made here with a Welcome of these bytes
pub record HasWelcome (d : CommitMade) (bytes : List ℕ) : Type 0 where
  pub number : ℕ
  pub is : d.welcome ≡ Some (number, bytes)

pub welcome_by : (w : World) (source : Source) (bytes : List ℕ) (d : CommitMade) (o : Option (ℕ × List ℕ)) → d.welcome ≡ o → ((n : ℕ) (x : List ℕ) → d.welcome ≡ Some (n, x) → slice_get w.messages n ≡ Some x) →
    has_source source o ≡ true → bytes_of w source ≡ Ok bytes → HasWelcome d bytes
welcome_by w source bytes d None e numbered h b = absurd (true≢false (sym h))
welcome_by w (Given supplied) bytes d (Some x) e numbered h b =
    let same : x.1 ≡ bytes = sym ((bytes_eq-Decides supplied.items x.1).0 h) ∙ ok_is supplied.items bytes b in
    record { number = x.0; is = e ∙ ap (λ (y : List ℕ). welcome_with x.0 y) same }
welcome_by w (Message n) bytes d (Some x) e numbered h b =
    let at : slice_get w.messages n ≡ Some bytes = given_ok 94 (slice_get w.messages n) bytes b in
    let same : x.1 ≡ bytes = one_there (slice_get w.messages x.0) x.1 bytes (numbered x.0 x.1 e) (ap (slice_get w.messages) (sym (eqb-true n x.0 h)) ∙ at) in
    record { number = x.0; is = e ∙ ap (λ (y : List ℕ). welcome_with x.0 y) same }

some_second : (d : CommitMade) (o : Option (List ℕ)) (bytes : List ℕ) → option_map (λ (x : ℕ × List ℕ). x.1) d.welcome ≡ o → HasWelcome d bytes → o ≡ Some bytes
some_second d o bytes e h = sym e ∙ ap (option_map (λ (x : ℕ × List ℕ). x.1)) h.is

-- and adds the candidate: who joins by it comes to its maker's next state
pub joins_by : (c : Crypto) → Lawful c → (creations : Creations) (w : World) (d : CommitMade) (k : Candidate) (bytes : List ℕ) (r : IsRecorded c creations w d) → IsGoodCandidate c k → HasWelcome d bytes → list_any (bytes_eq (key_package.spell k.offered)) d.adds ≡ true →
    JoinsTo c k bytes r.call
joins_by c laws creations w d k bytes r good h any =
    joiners_hold c laws r.maker r.list r.call bytes k r.is_made (some_second d r.call.welcome bytes r.welcome h) good
    (ap (list_any (bytes_eq (key_package.spell k.offered))) (sym r.adds) ∙ any)

-- ---- its journal

one_joined : (r : Result JoinedMember ℕ) (x y : JoinedMember) → r ≡ Ok x → r ≡ Ok y → x ≡ y
one_joined r x y a b = ok_is x y (sym a ∙ b)

by_info : (c : Crypto) (creations : Creations) (made : List CommitMade) (k : Candidate) (bytes : List ℕ) (j : JoinedMember) → IsGoodCandidate c k → join_verdict c k bytes ≡ Ok j → IsReached c creations made (from.GroupInfo j.info) [] j.member
unfolding IsReached
by_info c creations made k bytes j good h = (record { candidate = k; bytes = bytes; joined = j; is = h; info_is = refl; same = same_itself j.member }, joined_good c k bytes j good h)

by_commit : (c : Crypto) (creations more : Creations) (w : World) (d : CommitMade) (place : ℕ) (k : Candidate) (bytes : List ℕ) (j : JoinedMember) (r : IsRecorded c creations w d) → slice_get w.commits place ≡ Some d → IsGoodCandidate c k → (joins : JoinsTo c k bytes r.call) → join_verdict c k bytes ≡ Ok j →
    IsReached c (creations ++ more) w.commits d.journal.origin (d.entry ∷ d.journal.entries) j.member
unfolding IsReached
by_commit c creations more w d place k bytes j r at good joins h =
    let one : joins.joined ≡ j = one_joined (join_verdict c k bytes) joins.joined j joins.is h in (
      r.maker,
      past_grows c creations (creations ++ more) w.commits w.commits (get_append creations more) (grows_none w.commits) d.journal.origin d.journal.entries r.maker r.reached,
      joined_good c k bytes j good h,
      inr (inr (record {
        which = d;
        here = record { place = place; is = at; journal = refl; entry = refl };
        list = r.list;
        call = r.call;
        is_made = r.is_made;
        commit = sym r.commit;
        names = sym r.names;
        epoch = r.epoch;
        candidate = k;
        welcome = bytes;
        joins = joins;
        same = subst (λ (x : JoinedMember). IsSameState joins.joined.member x.member) one (same_itself joins.joined.member);
      })),
    )

joiner_reached : (c : Crypto) → Lawful c → (creations : Creations) (w : World) → IsGoodBy c creations w → (k : Candidate) (source : Source) (bytes : List ℕ) (j : JoinedMember) → IsGoodCandidate c k → bytes_of w source ≡ Ok bytes → join_verdict c k bytes ≡ Ok j →
    (o : Option CommitMade) → commit_for_joiner w.commits source k ≡ o → IsReached c (creations ++ (None ∷ [])) w.commits (joiner_journal o j.info).origin (joiner_journal o j.info).entries j.member
unfolding commit_for_joiner
joiner_reached c laws creations w g k source bytes j good b h None is = by_info c (creations ++ (None ∷ [])) w.commits k bytes j good h
joiner_reached c laws creations w g k source bytes j good b h (Some d) is =
    let f = find_stands (λ (x : CommitMade). has_source source x.welcome && list_any (bytes_eq (key_package.spell k.offered)) x.adds) w.commits d is in
    let p = and_parts (has_source source d.welcome) (list_any (bytes_eq (key_package.spell k.offered)) d.adds) f.2 in
    let r : IsRecorded c creations w d = g.records f.0 d f.1 in
    let welcome : HasWelcome d bytes = welcome_by w source bytes d d.welcome refl r.number p.0 b in
    by_commit c creations (None ∷ []) w d f.0 k bytes j r f.1 good (joins_by c laws creations w d k bytes r good welcome p.1) h

pub join_kept : (c : Crypto) → Lawful c → (creations : Creations) (w : World) → IsGoodBy c creations w → (n : ℕ) (source : Source) (x : Reply × World) → join_answer c w n source ≡ Ok x → IsGoodWorld c x.1
unfolding join_answer
join_kept c laws creations w g n source x h =
    let s1 = bind_ok (entrant_at w n) _ _ h in
    let s2 = bind_ok (bytes_of w source) _ _ s1.2 in
    let s3 = bind_ok (join_verdict c s1.0.candidate s2.0) _ _ s2.2 in
    let u : IsUnspent w n s1.0 = entrant_did w n s1.0 s1.1 in
    let did : JoinedDid s1.0.candidate s3.0 = joined_did c s1.0.candidate s2.0 s3.0 s3.1 in
    let t : Seat = record { member = s3.0.member; journal = joiner_journal (commit_for_joiner w.commits source s1.0.candidate) s3.0.info } in
    to_world c x _ s3.2
    (creations ++ (None ∷ []), one_more c creations w n s1.0 t None g u.is u.unspent did.signing did.free (joiner_reached c laws creations w g s1.0.candidate source s2.0 s3.0 (g.candidates n s1.0 u.is) s2.1 s3.1 (commit_for_joiner w.commits source s1.0.candidate) refl))
