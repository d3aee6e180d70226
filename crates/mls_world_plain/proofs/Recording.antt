-- What a commit call does to a world, from what its code has at hand.
use Rattle.std.proofs.Common.{◌≡◌, ◌≢◌, ℕ, zero, suc, ◌+◌, ◌<◌, Bool, true, false, List, [], ◌∷◌, ◌++◌, length, map, Option, Some, None, Result, Ok, Err, refl, sym, ap, subst, ◌∙◌, arith, append_assoc, get_or, slice_get, slice_set}
use Rattle.std.specs.Prelude.{option_map, is_some, IsSome}
use Rattle.std.proofs.lemmas.List.{length-map, length-set}
use Rattle.mls_suite.specs.Crypto.{Crypto}
use Rattle.mls_types.specs.declared.commit.ProposalOrRef.{ProposalOrRef}
use Rattle.mls_model.specs.declared.event.Reply.{Reply}
use Rattle.mls_model.specs.declared.event.Reply.TheVariants as reply
use Rattle.mls_model.specs.Journal.{Journal, Entry, with_entry}
use Rattle.mls_model.specs.declared.item.Item.{Item}
use Rattle.mls_model.specs.Make.{commit_call, list_item_of}
use Rattle.mls_model.specs.WorldCalls.{commit_answer, drop_answer}
use Rattle.mls_model.specs.Member.{Member, Pending, without_pending}
use Rattle.mls_model.specs.declared.event.WorldItem.{WorldItem}
use Rattle.mls_model.specs.World.{Entrant, Seat, World, with_member, items_of}
use Rattle.mls_world_plain.specs.CallParts.{commit_by, messages_with, record_commit, IsNamed}
use Rattle.mls_world_plain.specs.StoredWorld.{journal_at, AreMore, Seated, Making, seat_of, world_of, AreStored}
use Rattle.mls_world_plain.proofs.Stores.{seat_found, unchanged}
use Rattle.mls_world_plain.proofs.Calling.{at_same, member_changed}
use Rattle.mls_world_plain.proofs.Changing.{made_added, stored_made}
use Rattle.mls_world_plain.proofs.Committing.{was_made, commit_is, items_refused, commit_refused, forgotten, drop_is}

-- ---- the seat of member k

some_same : {X : Type 0} (x y : X) → Some x ≡ Some y → x ≡ y
some_same x y h = cc

read_at : (ss : List Seated) (k : ℕ) (x y : Seated) → y ≡ x → x ≡ get_or ss k x → y ≡ get_or ss k y
read_at ss k x y seen at = subst (λ (z : Seated). z ≡ get_or ss k z) (sym seen) at

pub seat_there : (w : World) (es : List Entrant) (ss : List Seated) (ms : List (List ℕ)) (ds : List Making) (js : List Journal) (k : ℕ) (x y : Seated)
    → world_of es ss ms ds js ≡ w → y ≡ x → x ≡ get_or ss k x → k < length w.seats → slice_get w.seats k ≡ Some (seat_of js y)
seat_there w es ss ms ds js k x y same seen at =
    subst (λ (v : World). k < length v.seats → slice_get v.seats k ≡ Some (seat_of js y)) same
    (λ lt. seat_found js ss k y (omega (arith, lt, length-map ss (seat_of js))) (read_at ss k x y seen at))

pub seat_is : (w : World) (es : List Entrant) (ss : List Seated) (ms : List (List ℕ)) (ds : List Making) (js : List Journal) (k : ℕ) (x y : Seated) (s : Seat)
    → world_of es ss ms ds js ≡ w → y ≡ x → x ≡ get_or ss k x → k < length w.seats → slice_get w.seats k ≡ Some s → seat_of js y ≡ s
seat_is w es ss ms ds js k x y s same seen at lt found = some_same _ _ (sym (seat_there w es ss ms ds js k x y same seen at lt) ∙ found)

changed : (w : World) (es : List Entrant) (ss : List Seated) (ms : List (List ℕ)) (ds : List Making) (js : List Journal) (k : ℕ) (y : Seated) (m : Member)
    → world_of es ss ms ds js ≡ w → world_of es (slice_set ss k (at_same y m)) ms ds js ≡ with_member w k (seat_of js y) m
changed w es ss ms ds js k y m same = member_changed es ss ms ds js k y m ∙ ap (λ (v : World). with_member v k (seat_of js y) m) same

pub set_to : (w : World) (es : List Entrant) (ss : List Seated) (ms : List (List ℕ)) (ds : List Making) (js : List Journal) (k : ℕ) (x y : Seated) (s : Seat) (m n : Member)
    → world_of es ss ms ds js ≡ w → y ≡ x → x ≡ get_or ss k x → k < length w.seats → slice_get w.seats k ≡ Some s → (seat_of js y ≡ s → m ≡ n)
    → world_of es (slice_set ss k (at_same y m)) ms ds js ≡ with_member w k s n
set_to w es ss ms ds js k x y s m n same seen at lt found h =
    let is : seat_of js y ≡ s = seat_is w es ss ms ds js k x y s same seen at lt found in
    changed w es ss ms ds js k y m same ∙ ap (λ (z : Seat). with_member w k z m) is ∙ ap (λ (o : Member). with_member w k s o) (h is)

-- ---- a commit of a member

commits : (c : Crypto) (w : World) (k : ℕ) (list : List ProposalOrRef) (path : Bool) (seed : List ℕ) (s : Seat) (x : List ℕ × Option (List ℕ)) (m : Member)
    → slice_get w.seats k ≡ Some s → commit_call c s.member list path seed ≡ Ok (x, m) → commit_by c w k list path seed ≡ Ok (x, with_member w k s m)
unfolding commit_by
commits c w k list path seed s x m found h = rw (found, h) refl

fails : (c : Crypto) (w : World) (k : ℕ) (list : List ProposalOrRef) (path : Bool) (seed : List ℕ) (s : Seat) (n : ℕ)
    → slice_get w.seats k ≡ Some s → commit_call c s.member list path seed ≡ Err n → commit_by c w k list path seed ≡ Err n
unfolding commit_by
fails c w k list path seed s n found h = rw (found, h) refl

abbrev the_commit : List ℕ × Option (List ℕ) → World → Result ((List ℕ × Option (List ℕ)) × World) ℕ
the_commit x w = Ok (x, w)

pub commit_done : (c : Crypto) (w : World) (es : List Entrant) (ss : List Seated) (ms : List (List ℕ)) (ds : List Making) (js : List Journal) (k : ℕ) (x y : Seated) (list : List ProposalOrRef) (path : Bool) (seed : List ℕ) (sent : List ℕ × Option (List ℕ)) (m : Member)
    → world_of es ss ms ds js ≡ w → y ≡ x → x ≡ get_or ss k x → k < length w.seats → commit_call c y.member list path seed ≡ Ok (sent, m)
    → commit_by c w k list path seed ≡ Ok (sent, world_of es (slice_set ss k (at_same y m)) ms ds js)
commit_done c w es ss ms ds js k x y list path seed sent m same seen at lt h =
    commits c w k list path seed (seat_of js y) sent m (seat_there w es ss ms ds js k x y same seen at lt) h
    ∙ ap (λ (v : World). the_commit sent v) (sym (changed w es ss ms ds js k y m same))

pub commit_fails : (c : Crypto) (w : World) (es : List Entrant) (ss : List Seated) (ms : List (List ℕ)) (ds : List Making) (js : List Journal) (k : ℕ) (x y : Seated) (list : List ProposalOrRef) (path : Bool) (seed : List ℕ) (m : Member) (n : ℕ)
    → world_of es ss ms ds js ≡ w → y ≡ x → x ≡ get_or ss k x → k < length w.seats → (m ≡ y.member) × (n ≢ 1 → commit_call c y.member list path seed ≡ Err n)
    → (world_of es (slice_set ss k (at_same y m)) ms ds js ≡ w) × (n ≢ 1 → commit_by c w k list path seed ≡ Err n)
commit_fails c w es ss ms ds js k x y list path seed m n same seen at lt h =
    let there = seat_there w es ss ms ds js k x y same seen at lt in
    let as_it_was : slice_set ss k (at_same y y.member) ≡ ss = unchanged ss k y (read_at ss k x y seen at) in (
      ap (λ (o : Member). world_of es (slice_set ss k (at_same y o)) ms ds js) h.0 ∙ ap (λ (l : List Seated). world_of es l ms ds js) as_it_was ∙ same,
      λ other. fails c w k list path seed (seat_of js y) n there (h.1 other),
    )

-- ---- a commit is recorded

abbrev made_with : List Making → Making → List Making
made_with l d = l ++ d ∷ []

pub stored_recorded : (ss : List Seated) (ds before after : List Making) (js mid new : List Journal) (j : Journal) (e : Entry) (d : Making)
    → AreStored ss ds js → mid ≡ js → AreMore mid new → before ≡ ds → after ≡ before ++ d ∷ [] → d.journal < length new → journal_at new d.journal ≡ with_entry j e → AreStored ss after new
stored_recorded ss ds before after js mid new j e d h same m b a lt is =
    let all : after ≡ ds ++ d ∷ [] = a ∙ ap (λ (l : List Making). made_with l d) b in
    let more : AreMore js new = subst (λ (l : List Journal). AreMore l new) same m in
    rw all (stored_made ss ds js new j e d h more lt is)

-- a record, as it is made
abbrev pub making : ℕ → ℕ → List ℕ → List (List ℕ) → Option (ℕ × List ℕ) → Making
making maker journal epoch adds welcome = record { maker = maker; journal = journal; epoch_secret = epoch; adds = adds; welcome = welcome }

abbrev numbered : ℕ → Option (List ℕ) → Option (ℕ × List ℕ)
numbered n o = option_map (λ (bytes : List ℕ). (n, bytes)) o

abbrev recorded_with : World → ℕ → Journal → List ℕ → List (List ℕ) → List ℕ → List (List ℕ) → List (List ℕ) → Option (ℕ × List ℕ) → World
recorded_with w k j commit names epoch adds more welcome = record w {
  messages = w.messages ++ more;
  commits = w.commits ++ (record { maker = k; journal = j; entry = record { commit = commit; named_messages = names }; epoch_secret = epoch; adds = adds; welcome = welcome } ∷ []);
}

abbrev the_pair : Reply → World → Reply × World
the_pair r w = (r, w)

added : (w : World) (es : List Entrant) (ss : List Seated) (ms more : List (List ℕ)) (ds : List Making) (js new : List Journal) (k at : ℕ) (j : Journal) (commit : List ℕ) (names : List (List ℕ)) (epoch : List ℕ) (adds : List (List ℕ)) (welcome : Option (ℕ × List ℕ))
    → world_of es ss ms ds js ≡ w → AreStored ss ds js → AreMore js new → journal_at new at ≡ with_entry j (record { commit = commit; named_messages = names })
    → world_of es ss (ms ++ more) (ds ++ making k at epoch adds welcome ∷ []) new ≡ recorded_with w k j commit names epoch adds more welcome
added w es ss ms more ds js new k at j commit names epoch adds welcome same h m is =
    made_added es ss ms more ds js new at j (record { commit = commit; named_messages = names }) k epoch adds welcome h m is
    ∙ ap (λ (v : World). recorded_with v k j commit names epoch adds more welcome) same

abbrev record_of : World → ℕ → Journal → List ℕ → List ℕ → Option (List ℕ) → List (List ℕ) → List (List ℕ) → ℕ → Reply × World
record_of w k j epoch commit o names adds n =
    (reply.Commit n (option_map (λ (bytes : List ℕ). n + 1) o), recorded_with w k j commit names epoch adds (messages_with commit o) (numbered (n + 1) o))

fused : {X : Type 0} (f : X → List ℕ) (n : ℕ) (o : Option X) → option_map (λ (v : X). (n, f v)) o ≡ numbered n (option_map f o)
fused f n None = refl
fused f n (Some x) = refl

world_is : (w : World) (es : List Entrant) (ss : List Seated) (ms : List (List ℕ)) (ds : List Making) (js new : List Journal) (k at : ℕ) (j : Journal) (commit seen : List ℕ) (names : List (List ℕ)) (epoch : List ℕ) (adds : List (List ℕ)) (more messages : List (List ℕ)) (welcome said : Option (ℕ × List ℕ)) (after : List Making)
    → world_of es ss ms ds js ≡ w → AreStored ss ds js → AreMore js new → journal_at new at ≡ with_entry j (record { commit = seen; named_messages = names }) → seen ≡ commit → said ≡ welcome
    → after ≡ ds ++ making k at epoch adds said ∷ [] → messages ≡ ms ++ more
    → recorded_with w k j commit names epoch adds more welcome ≡ world_of es ss messages after new
world_is w es ss ms ds js new k at j commit seen names epoch adds more messages welcome said after same h m journal sent numbers made told =
    let is : journal_at new at ≡ with_entry j (record { commit = commit; named_messages = names }) = journal ∙ ap (λ (c : List ℕ). with_entry j (record { commit = c; named_messages = names })) sent in
    let made_1 : after ≡ ds ++ making k at epoch adds welcome ∷ [] = made ∙ ap (λ (z : Option (ℕ × List ℕ)). made_with ds (making k at epoch adds z)) numbers in
    rw (told, made_1) (sym (added w es ss ms more ds js new k at j commit names epoch adds welcome same h m is))

pub recorded_is : {X : Type 0} (f : X → List ℕ) (w : World) (es : List Entrant) (ss : List Seated) (ms messages : List (List ℕ)) (ds before after : List Making) (js mid new : List Journal) (k at n : ℕ) (x y : Seated) (s : Seat) (p : Pending)
    (commit seen : List ℕ) (o : Option X) (names adds : List (List ℕ)) (epoch : List ℕ) (said : Option (ℕ × List ℕ)) (answered : Option ℕ)
    → world_of es ss ms ds js ≡ w → AreStored ss ds js → y ≡ x → x ≡ get_or ss k x → k < length w.seats → slice_get w.seats k ≡ Some s → epoch ≡ p.epoch_secret → n ≡ length ms
    → mid ≡ js → AreMore mid new → journal_at new at ≡ with_entry (journal_at mid y.journal) (record { commit = seen; named_messages = names }) → seen ≡ commit
    → said ≡ option_map (λ (v : X). (n + 1, f v)) o → before ≡ ds → after ≡ before ++ making k at epoch adds said ∷ []
    → messages ≡ ms ++ messages_with commit (option_map f o) → answered ≡ option_map (λ (bytes : List ℕ). n + 1) (option_map f o)
    → record_commit w k s p.epoch_secret (commit, option_map f o) names adds ≡ (reply.Commit n answered, world_of es ss messages after new)
recorded_is f w es ss ms messages ds before after js mid new k at n x y s p commit seen o names adds epoch said answered same h is_x read lt found is count as_before m journal sent numbers b a told replied =
    let j : Journal = journal_at js y.journal in
    let r : Option (List ℕ) = option_map f o in
    let seat : seat_of js y ≡ s = seat_is w es ss ms ds js k x y s same is_x read lt found in
    let here : n ≡ length w.messages = count ∙ ap (λ (v : World). length v.messages) same in
    let e1 : record_commit w k s p.epoch_secret (commit, r) names adds ≡ record_of w k s.journal p.epoch_secret commit r names adds n = ap (λ (i : ℕ). record_of w k s.journal p.epoch_secret commit r names adds i) (sym here) in
    let e2 : record_of w k s.journal p.epoch_secret commit r names adds n ≡ record_of w k j p.epoch_secret commit r names adds n = ap (λ (z : Seat). record_of w k z.journal p.epoch_secret commit r names adds n) (sym seat) in
    let e3 : record_of w k j p.epoch_secret commit r names adds n ≡ record_of w k j epoch commit r names adds n = ap (λ (z : List ℕ). record_of w k j z commit r names adds n) (sym is) in
    let made_is : after ≡ ds ++ making k at epoch adds said ∷ [] = a ∙ ap (λ (l : List Making). made_with l (making k at epoch adds said)) b in
    let more : AreMore js new = subst (λ (l : List Journal). AreMore l new) as_before m in
    let there : journal_at new at ≡ with_entry j (record { commit = seen; named_messages = names }) = journal ∙ ap (λ (l : List Journal). with_entry (journal_at l y.journal) (record { commit = seen; named_messages = names })) as_before in
    let e4 : recorded_with w k j commit names epoch adds (messages_with commit r) (numbered (n + 1) r) ≡ world_of es ss messages after new =
    world_is w es ss ms ds js new k at j commit seen names epoch adds (messages_with commit r) messages (numbered (n + 1) r) said after same h more there sent (numbers ∙ fused f (n + 1) o) made_is told in
    let reply_is : reply.Commit n (option_map (λ (bytes : List ℕ). n + 1) r) ≡ reply.Commit n answered = ap (λ (z : Option ℕ). reply.Commit n z) (sym replied) in
    e1 ∙ e2 ∙ e3
    ∙ ap (λ (q : Reply). the_pair q (recorded_with w k j commit names epoch adds (messages_with commit r) (numbered (n + 1) r))) reply_is
    ∙ ap (λ (v : World). the_pair (reply.Commit n answered) v) e4

-- the messages, where there is a Welcome and where there is none
pub told_both : {X : Type 0} (f : X → List ℕ) (ms m0 m1 m2 : List (List ℕ)) (commit seen welcome : List ℕ) (o : Option X) (v : X)
    → m0 ≡ ms → m1 ≡ m0 ++ seen ∷ [] → seen ≡ commit → m2 ≡ m1 ++ welcome ∷ [] → welcome ≡ f v → o ≡ Some v → m2 ≡ ms ++ messages_with commit (option_map f o)
told_both f ms m0 m1 m2 commit seen welcome o v start one is two other there =
    rw (there, two, one, start, is, other) (append_assoc ms (commit ∷ []) (f v ∷ []))

pub told_one : {X : Type 0} (f : X → List ℕ) (ms m0 m1 : List (List ℕ)) (commit seen : List ℕ) (o : Option X)
    → m0 ≡ ms → m1 ≡ m0 ++ seen ∷ [] → seen ≡ commit → o ≡ None → m1 ≡ ms ++ messages_with commit (option_map f o)
told_one f ms m0 m1 commit seen o start one is there = rw (there, one, start, is) refl

pub replied_both : {X : Type 0} (f : X → List ℕ) (n : ℕ) (o : Option X) (v : X) → o ≡ Some v → Some n ≡ option_map (λ (bytes : List ℕ). n) (option_map f o)
replied_both f n o v there = rw there refl

pub replied_one : {X : Type 0} (f : X → List ℕ) (n : ℕ) (o : Option X) → o ≡ None → None ≡ option_map (λ (bytes : List ℕ). n) (option_map f o)
replied_one f n o there = rw there refl

-- ---- nothing pends where a commit was made

pub none_pends : {A E X : Type 0} (gone : Bool) (o : Option X) (a : A) (e f : E) → (gone ≡ true → Ok a ≡ Err e) → (gone ≡ false → IsSome o → Ok a ≡ Err f) → o ≡ None
none_pends true o a e f h k = let no = h refl in absurd cc
none_pends false None a e f h k = refl
none_pends false (Some x) a e f h k = let no = k refl refl in absurd cc

-- ---- the member of a number

record There {X : Type 0} (xs : List X) (k : ℕ) : Type 0 where
  item : X
  is : slice_get xs k ≡ Some item

there_of : {X : Type 0} (xs : List X) (k : ℕ) → k < length xs → There xs k
there_of [] k lt = absurd (omega arith)
there_of (z ∷ xs) zero lt = record { item = z; is = refl }
there_of (z ∷ xs) (suc k) lt = let r = there_of xs k (omega arith) in record { item = r.item; is = r.is }

pub dropped : (w new : World) (k : ℕ) (had : Bool) → k < length w.seats → ((s : Seat) → slice_get w.seats k ≡ Some s → had ≡ is_some s.member.pending)
    → ((s : Seat) → slice_get w.seats k ≡ Some s → new ≡ with_member w k s (without_pending s.member)) → drop_answer w k ≡ Ok (reply.Dropped had, new)
dropped w new k had lt had_it none =
    let s = there_of w.seats k lt in
    drop_is w new k s.item had s.is (had_it s.item s.is) (none s.item s.is)

-- ---- the whole call

pub list_refused : (c : Crypto) (w : World) (k : ℕ) (items : List WorldItem) (path : Bool) (seed : List ℕ) (n : ℕ) → k < length w.seats → (n ≢ 1 → items_of w items ≡ Err n) → n ≢ 1 → commit_answer c w k items path seed ≡ Err n
list_refused c w k items path seed n lt h other =
    let s = there_of w.seats k lt in
    items_refused c w k items path seed s.item n s.is (h other)

pub make_refused : (c : Crypto) (w : World) (k : ℕ) (items : List WorldItem) (path : Bool) (seed : List ℕ) (list : List ProposalOrRef) (n : ℕ) → k < length w.seats → items_of w items ≡ Ok list
    → (n ≢ 1 → commit_by c w k list path seed ≡ Err n) → n ≢ 1 → commit_answer c w k items path seed ≡ Err n
make_refused c w k items path seed list n lt listed h other =
    let s = there_of w.seats k lt in
    commit_refused c w k items path seed list s.item n s.is listed (h other)

pub still_there : (c : Crypto) (w mid : World) (k : ℕ) (list : List ProposalOrRef) (path : Bool) (seed : List ℕ) (x : List ℕ × Option (List ℕ)) → k < length w.seats → commit_by c w k list path seed ≡ Ok (x, mid) → k < length mid.seats
still_there c w mid k list path seed x lt h =
    let s = there_of w.seats k lt in
    let world = (was_made c w k s.item list path seed x mid s.is h).world in
    subst (λ (v : World). k < length v.seats) (sym world) (rw length-set lt)

pub whole_is : (c : Crypto) (w mid new : World) (k : ℕ) (items : List WorldItem) (path : Bool) (seed : List ℕ) (list : List ProposalOrRef) (x : List ℕ × Option (List ℕ)) (names adds : List (List ℕ)) (said : Reply)
    → k < length w.seats → items_of w items ≡ Ok list → commit_by c w k list path seed ≡ Ok (x, mid)
    → ((s : Seat) → slice_get w.seats k ≡ Some s → IsNamed s.member.kept list names adds)
    → ((t : Seat) (p : Pending) → slice_get mid.seats k ≡ Some t → t.member.pending ≡ Some p → record_commit mid k t p.epoch_secret x names adds ≡ (said, new))
    → commit_answer c w k items path seed ≡ Ok (said, new)
whole_is c w mid new k items path seed list x names adds said lt listed does named h =
    let s = there_of w.seats k lt in
    commit_is c w mid new k items path seed list s.item x names adds said s.is listed does (named s.item s.is) h

-- what can't be recorded is forgotten
pub undone : (c : Crypto) (w mid kept new : World) (k : ℕ) (list : List ProposalOrRef) (path : Bool) (seed : List ℕ) (x : List ℕ × Option (List ℕ)) → k < length w.seats → kept ≡ mid → commit_by c w k list path seed ≡ Ok (x, mid)
    → ((s : Seat) → slice_get w.seats k ≡ Some s → s.member.pending ≡ None)
    → ((t : Seat) → slice_get kept.seats k ≡ Some t → new ≡ with_member kept k t (without_pending t.member)) → new ≡ w
undone c w mid kept new k list path seed x lt same does free h =
    let s = there_of w.seats k lt in
    forgotten c w mid new k list path seed s.item x s.is (free s.item s.is) does
    (subst (λ (v : World). (t : Seat) → slice_get v.seats k ≡ Some t → new ≡ with_member v k t (without_pending t.member)) same h)

-- lists, as they are lent
pub listed_so : (w : World) (items : List WorldItem) (list lent : List Item) → lent ≡ list → items_of w items ≡ Ok (map list_item_of list) → items_of w items ≡ Ok (map list_item_of lent)
listed_so w items list lent e h = subst (λ (l : List Item). items_of w items ≡ Ok (map list_item_of l)) (sym e) h

pub named_so : (w : World) (k : ℕ) (list lent other : List Item) (names adds : List (List ℕ)) → lent ≡ list → other ≡ list
    → ((s : Seat) → slice_get w.seats k ≡ Some s → IsNamed s.member.kept (map list_item_of lent) names adds) → (s : Seat) → slice_get w.seats k ≡ Some s → IsNamed s.member.kept (map list_item_of other) names adds
named_so w k list lent other names adds e d h = subst (λ (l : List Item). (s : Seat) → slice_get w.seats k ≡ Some s → IsNamed s.member.kept (map list_item_of l) names adds) (e ∙ sym d) h
