-- What calls do to what a world stores, and so to the world.
use Rattle.std.proofs.Common.{◌≡◌, ℕ, ◌<◌, List, [], ◌∷◌, ◌++◌, length, map, true, false, Option, Some, None, Result, Ok, Err, refl, sym, ap, subst, ◌∙◌, get_or, slice_get, slice_set, arith}
use Rattle.std.specs.Prelude.{option_map}
use Rattle.std.proofs.lemmas.List.{length-append, map-append, append-nil}
use Rattle.std.proofs.lemmas.Option.{slice_get-map, slice_get_read}
use Rattle.mls_wire.specs.Laws.{ok_is}
use Rattle.mls_wire.specs.Reading.{◌>>=◌}
use Rattle.mls_suite.specs.Crypto.{Crypto}
use Rattle.mls_model.specs.declared.effect.Effect.{Effect}
use Rattle.mls_model.specs.declared.effect.Effect.TheVariants.{Proposed, Known, Advanced, Removed}
use Rattle.mls_model.specs.declared.event.Source.{Source}
use Rattle.mls_model.specs.declared.event.Reply.{Reply}
use Rattle.mls_model.specs.declared.event.Reply.TheVariants as reply
use Rattle.mls_model.specs.Journal.{Entry, Journal, CommitMade, with_entry, entry_of}
use Rattle.mls_model.specs.Member.{Member}
use Rattle.mls_model.specs.Verdict.{verdict}
use Rattle.mls_model.specs.WorldCalls.{journal_after, deliver_answer}
use Rattle.mls_model.specs.World.{Entrant, Seat, World, bytes_of, with_new_member}
use Rattle.mls_public_group.proofs.Rest.{all_at, all_behind}
use Rattle.mls_world_plain.specs.CallParts.{seat_verdict, is_advanced}
use Rattle.mls_world_plain.specs.StoredWorld.{journal_at, IsWithin, HasEntry, AreMore, Seated, Making, seat_of, commit_made_of, world_of, AreStored}
use Rattle.mls_world_plain.proofs.Stores.{seat_set, seats_stay, made_stay, stored_more, unchanged, all_set}

abbrev parts : List Entrant → List Seat → List (List ℕ) → List CommitMade → World
parts es seats ms made = record { entrants = es; seats = seats; messages = ms; commits = made }

-- ---- deliveries to a seat

going_on : (s : Seat) (bytes : List ℕ) (e : Effect) → is_advanced e ≡ true → journal_after s bytes e ≡ with_entry s.journal (entry_of s.member bytes)
going_on s bytes (Proposed r) h = absurd cc
going_on s bytes (Known r) h = absurd cc
going_on s bytes (Advanced n) h = refl
going_on s bytes Removed h = absurd cc

pub advanced : (c : Crypto) (js mid new : List Journal) (s : Seated) (bytes : List ℕ) (m : Member) (e : Effect) (entry : Entry) (n : ℕ) → verdict c s.member bytes ≡ Ok (e, m) → true ≡ is_advanced e → journal_at new n ≡ with_entry (journal_at mid s.journal) entry → entry ≡ entry_of s.member bytes → mid ≡ js
    → seat_verdict c (seat_of js s) bytes ≡ Ok (e, seat_of new (record { member = m; journal = n }))
unfolding seat_verdict
advanced c js mid new s bytes m e entry n h goes at is same =
    rw (h, going_on (seat_of js s) bytes e (sym goes), at, same, is) refl

staying : (s : Seat) (bytes : List ℕ) (e : Effect) → is_advanced e ≡ false → journal_after s bytes e ≡ s.journal
staying s bytes (Proposed r) h = refl
staying s bytes (Known r) h = refl
staying s bytes (Advanced n) h = absurd cc
staying s bytes Removed h = refl

pub stayed : (c : Crypto) (js mid : List Journal) (s : Seated) (bytes : List ℕ) (m : Member) (e : Effect) → verdict c s.member bytes ≡ Ok (e, m) → false ≡ is_advanced e → mid ≡ js
    → seat_verdict c (seat_of js s) bytes ≡ Ok (e, seat_of mid (record { member = m; journal = s.journal }))
unfolding seat_verdict
stayed c js mid s bytes m e h other same = rw (h, staying (seat_of js s) bytes e (sym other), same) refl

pub seat_same : (js mid : List Journal) (s : Seated) → mid ≡ js → seat_of mid s ≡ seat_of js s
seat_same js mid s e = ap (λ (l : List Journal). seat_of l s) e

pub failed : (c : Crypto) (js : List Journal) (s : Seated) (bytes : List ℕ) (n : ℕ) → verdict c s.member bytes ≡ Err n → seat_verdict c (seat_of js s) bytes ≡ Err n
unfolding seat_verdict
failed c js s bytes n h = rw h refl

-- ---- deliveries to a world

abbrev handed : World → ℕ → Seat → Result (Effect × Member) ℕ → List ℕ → Result (Reply × World) ℕ
handed w k s r bytes = r >>= λ x. Ok (reply.Delivered x.0, record w { seats = slice_set w.seats k (record { member = x.1; journal = journal_after s bytes x.0 }) })

abbrev seat_answer : Seat → List ℕ → Result (Effect × Member) ℕ → Result (Effect × Seat) ℕ
seat_answer s bytes r = r >>= λ x. Ok (x.0, record { member = x.1; journal = journal_after s bytes x.0 })

abbrev the_reply : World → ℕ → Effect × Seat → Result (Reply × World) ℕ
the_reply w k y = Ok (reply.Delivered y.0, record w { seats = slice_set w.seats k y.1 })

handed_so : (w : World) (k : ℕ) (s t : Seat) (r : Result (Effect × Member) ℕ) (bytes : List ℕ) (e : Effect) → seat_answer s bytes r ≡ Ok (e, t) → handed w k s r bytes ≡ Ok (reply.Delivered e, record w { seats = slice_set w.seats k t })
handed_so w k s t (Ok x) bytes e h = ap (λ (y : Effect × Seat). the_reply w k y) (ok_is _ _ h)
handed_so w k s t (Err n) bytes e h = absurd cc

not_handed : (w : World) (k : ℕ) (s : Seat) (r : Result (Effect × Member) ℕ) (bytes : List ℕ) (n : ℕ) → seat_answer s bytes r ≡ Err n → handed w k s r bytes ≡ Err n
not_handed w k s (Ok x) bytes n h = absurd cc
not_handed w k s (Err i) bytes n h = cc

pub delivered : (c : Crypto) (w : World) (k : ℕ) (source : Source) (bytes : List ℕ) (s t : Seat) (e : Effect) → slice_get w.seats k ≡ Some s → bytes_of w source ≡ Ok bytes → seat_verdict c s bytes ≡ Ok (e, t) → deliver_answer c w k source ≡ Ok (reply.Delivered e, record w { seats = slice_set w.seats k t })
unfolding deliver_answer seat_verdict
delivered c w k source bytes s t e found supplied h = rw (found, supplied) (handed_so w k s t (verdict c s.member bytes) bytes e h)

pub undelivered : (c : Crypto) (w : World) (k : ℕ) (source : Source) (bytes : List ℕ) (s : Seat) (n : ℕ) → slice_get w.seats k ≡ Some s → bytes_of w source ≡ Ok bytes → seat_verdict c s bytes ≡ Err n → deliver_answer c w k source ≡ Err n
unfolding deliver_answer seat_verdict
undelivered c w k source bytes s n found supplied h = rw (found, supplied) (not_handed w k s (verdict c s.member bytes) bytes n h)

pub no_source : (c : Crypto) (w : World) (k : ℕ) (source : Source) (s : Seat) (n : ℕ) → slice_get w.seats k ≡ Some s → bytes_of w source ≡ Err n → deliver_answer c w k source ≡ Err n
unfolding deliver_answer
no_source c w k source s n found supplied = rw (found, supplied) refl

pub no_member : (c : Crypto) (w : World) (k : ℕ) (source : Source) → slice_get w.seats k ≡ None → deliver_answer c w k source ≡ Err 90
unfolding deliver_answer
no_member c w k source found = rw found refl

-- one seat is changed, where journals may have been added
pub seat_moved : (es : List Entrant) (ss : List Seated) (ms : List (List ℕ)) (ds : List Making) (js new : List Journal) (k : ℕ) (s : Seated) → AreStored ss ds js → AreMore js new
    → world_of es (slice_set ss k s) ms ds new ≡ record (world_of es ss ms ds js) { seats = slice_set (map (seat_of js) ss) k (seat_of new s) }
seat_moved es ss ms ds js new k s h m =
    let a : map (seat_of new) ss ≡ map (seat_of js) ss = rw m.are (seats_stay js m.more ss h.seats) in
    let b : map (commit_made_of new) ds ≡ map (commit_made_of js) ds = rw m.are (made_stay js m.more ds h.made) in
    let d : map (seat_of new) (slice_set ss k s) ≡ slice_set (map (seat_of js) ss) k (seat_of new s) = seat_set new ss k s ∙ ap (λ (l : List Seat). slice_set l k (seat_of new s)) a in
    ap (λ (l : List Seat). parts es l ms (map (commit_made_of new) ds)) d ∙ ap (λ (l : List CommitMade). parts es (slice_set (map (seat_of js) ss) k (seat_of new s)) ms l) b

-- and none where it is as it was
pub seat_kept : (es : List Entrant) (ss : List Seated) (ms : List (List ℕ)) (ds : List Making) (js new : List Journal) (k : ℕ) (s t : Seated) → AreStored ss ds js → AreMore js new → s ≡ get_or ss k s → seat_of new t ≡ seat_of js s
    → world_of es (slice_set ss k t) ms ds new ≡ world_of es ss ms ds js
seat_kept es ss ms ds js new k s t h m at same =
    let d : slice_set (map (seat_of js) ss) k (seat_of js s) ≡ map (seat_of js) ss = sym (seat_set js ss k s) ∙ ap (λ (l : List Seated). map (seat_of js) l) (unchanged ss k s at) in
    seat_moved es ss ms ds js new k t h m ∙ ap (λ (l : List Seat). parts es l ms (map (commit_made_of js) ds)) (ap (λ (x : Seat). slice_set (map (seat_of js) ss) k x) same ∙ d)

pub stored_moved : (ss : List Seated) (ds : List Making) (js new : List Journal) (k : ℕ) (s : Seated) → AreStored ss ds js → AreMore js new → IsWithin new s.journal → AreStored (slice_set ss k s) ds new
stored_moved ss ds js new k s h m lt =
    let all : AreStored ss ds new = subst (λ (l : List Journal). AreStored ss ds l) (sym m.are) (stored_more ss ds js m.more h) in
    record { seats = all_set (λ (x : Seated). IsWithin new x.journal) ss k s all.seats lt; made = all.made }

-- ---- new members

abbrev pub spent : Entrant → Entrant
spent e = record { candidate = e.candidate; is_spent = true }

pub member_joined : (es : List Entrant) (ss : List Seated) (ms : List (List ℕ)) (ds : List Making) (js new : List Journal) (n : ℕ) (e : Entrant) (s : Seated) → AreStored ss ds js → AreMore js new
    → world_of (slice_set es n (spent e)) (ss ++ s ∷ []) ms ds new ≡ with_new_member (world_of es ss ms ds js) n e (seat_of new s)
member_joined es ss ms ds js new n e s h m =
    let a : map (seat_of new) ss ≡ map (seat_of js) ss = rw m.are (seats_stay js m.more ss h.seats) in
    let b : map (commit_made_of new) ds ≡ map (commit_made_of js) ds = rw m.are (made_stay js m.more ds h.made) in
    let d : map (seat_of new) (ss ++ s ∷ []) ≡ map (seat_of js) ss ++ seat_of new s ∷ [] = map-append (seat_of new) ss (s ∷ []) ∙ ap (λ (l : List Seat). l ++ seat_of new s ∷ []) a in
    ap (λ (l : List Seat). parts (slice_set es n (spent e)) l ms (map (commit_made_of new) ds)) d ∙ ap (λ (l : List CommitMade). parts (slice_set es n (spent e)) (map (seat_of js) ss ++ seat_of new s ∷ []) ms l) b

pub stored_joined : (ss : List Seated) (ds : List Making) (js new : List Journal) (s : Seated) → AreStored ss ds js → AreMore js new → IsWithin new s.journal → AreStored (ss ++ s ∷ []) ds new
stored_joined ss ds js new s h m lt =
    let all : AreStored ss ds new = subst (λ (l : List Journal). AreStored ss ds l) (sym m.are) (stored_more ss ds js m.more h) in
    record { seats = all_behind (λ (x : Seated). IsWithin new x.journal) ss s all.seats lt; made = all.made }

pub none_behind : (js : List Journal) → AreMore js js
none_behind js = record { more = []; are = sym (append-nil js) }

pub last_within : (js : List Journal) (j : Journal) → IsWithin (js ++ j ∷ []) (length js)
last_within js j = omega (arith, length-append js (j ∷ []))

-- ---- records

entry_there : (new : List Journal) (n : ℕ) (j : Journal) (e : Entry) → n < length new → journal_at new n ≡ with_entry j e → HasEntry new n
entry_there new n j e lt is = record { within = lt; follows = rw is refl }

made_is : (new : List Journal) (n : ℕ) (j : Journal) (e : Entry) (maker : ℕ) (epoch : List ℕ) (adds : List (List ℕ)) (welcome : Option (ℕ × List ℕ)) → journal_at new n ≡ with_entry j e
    → commit_made_of new (record { maker = maker; journal = n; epoch_secret = epoch; adds = adds; welcome = welcome }) ≡ record { maker = maker; journal = j; entry = e; epoch_secret = epoch; adds = adds; welcome = welcome }
made_is new n j e maker epoch adds welcome is = rw is refl

pub made_added : (es : List Entrant) (ss : List Seated) (ms more : List (List ℕ)) (ds : List Making) (js new : List Journal) (n : ℕ) (j : Journal) (e : Entry) (maker : ℕ) (epoch : List ℕ) (adds : List (List ℕ)) (welcome : Option (ℕ × List ℕ))
    → AreStored ss ds js → AreMore js new → journal_at new n ≡ with_entry j e
    → world_of es ss (ms ++ more) (ds ++ record { maker = maker; journal = n; epoch_secret = epoch; adds = adds; welcome = welcome } ∷ []) new
    ≡ record (world_of es ss ms ds js) { messages = ms ++ more; commits = map (commit_made_of js) ds ++ record { maker = maker; journal = j; entry = e; epoch_secret = epoch; adds = adds; welcome = welcome } ∷ [] }
made_added es ss ms more ds js new n j e maker epoch adds welcome h m is =
    let d : Making = record { maker = maker; journal = n; epoch_secret = epoch; adds = adds; welcome = welcome } in
    let a : map (seat_of new) ss ≡ map (seat_of js) ss = rw m.are (seats_stay js m.more ss h.seats) in
    let b : map (commit_made_of new) ds ≡ map (commit_made_of js) ds = rw m.are (made_stay js m.more ds h.made) in
    let last : commit_made_of new d ≡ record { maker = maker; journal = j; entry = e; epoch_secret = epoch; adds = adds; welcome = welcome } = made_is new n j e maker epoch adds welcome is in
    let f : map (commit_made_of new) (ds ++ d ∷ []) ≡ map (commit_made_of js) ds ++ record { maker = maker; journal = j; entry = e; epoch_secret = epoch; adds = adds; welcome = welcome } ∷ [] =
    map-append (commit_made_of new) ds (d ∷ []) ∙ ap (λ (l : List CommitMade). l ++ commit_made_of new d ∷ []) b ∙ ap (λ (x : CommitMade). map (commit_made_of js) ds ++ x ∷ []) last in
    ap (λ (l : List Seat). parts es l (ms ++ more) (map (commit_made_of new) (ds ++ d ∷ []))) a ∙ ap (λ (l : List CommitMade). parts es (map (seat_of js) ss) (ms ++ more) l) f

pub stored_made : (ss : List Seated) (ds : List Making) (js new : List Journal) (j : Journal) (e : Entry) (d : Making) → AreStored ss ds js → AreMore js new → d.journal < length new → journal_at new d.journal ≡ with_entry j e → AreStored ss (ds ++ d ∷ []) new
stored_made ss ds js new j e d h m lt is =
    let all : AreStored ss ds new = subst (λ (l : List Journal). AreStored ss ds l) (sym m.are) (stored_more ss ds js m.more h) in
    record { seats = all.seats; made = all_behind (λ (x : Making). HasEntry new x.journal) ds d all.made (entry_there new d.journal j e lt is) }

-- a record's journal with its entry
pub made_found : (js : List Journal) (ss : List Seated) (ds : List Making) (i : ℕ) (d : Making) (x : CommitMade) → AreStored ss ds js → i < length ds → d ≡ get_or ds i d → slice_get (map (commit_made_of js) ds) i ≡ Some x → journal_at js d.journal ≡ with_entry x.journal x.entry
made_found js ss ds i d x h lt at found =
    let there : HasEntry js d.journal = all_at (λ (y : Making). HasEntry js y.journal) ds i d h.made lt at in
    let e : slice_get (map (commit_made_of js) ds) i ≡ Some (commit_made_of js d) = slice_get-map (commit_made_of js) ds i ∙ ap (λ (o : Option Making). option_map (commit_made_of js) o) (slice_get_read ds (length ds) i d refl lt at) in
    let same : x ≡ commit_made_of js d = cc in
    rw same (sym there.follows)

pub made_there : (js : List Journal) (ss : List Seated) (ds : List Making) (i : ℕ) (d : Making) → AreStored ss ds js → i < length ds → d ≡ get_or ds i d → IsWithin js d.journal
made_there js ss ds i d h lt at = (all_at (λ (y : Making). HasEntry js y.journal) ds i d h.made lt at).within
