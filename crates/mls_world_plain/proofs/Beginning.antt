-- What a new member does to a world, from what its code has at hand.
use Rattle.std.proofs.Common.{arith, ◌≡◌, ℕ, ◌<◌, List, [], ◌∷◌, ◌++◌, length, Some, refl, sym, ap, subst, ◌∙◌, get_or, slice_get, slice_set}
use Rattle.std.proofs.lemmas.List.{length-map}
use Rattle.std.proofs.lemmas.Option.{slice_get_read}
use Rattle.mls_model.specs.Journal.{Journal, CommitMade, with_entry}
use Rattle.mls_model.specs.World.{Entrant, Seat, World, with_new_member}
use Rattle.mls_world_plain.specs.StoredWorld.{journal_at, IsWithin, AreMore, Seated, Making, commit_made_of, world_of, AreStored}
use Rattle.mls_world_plain.proofs.JournalSteps.{journal_seam}
use Rattle.mls_world_plain.proofs.Changing.{spent, member_joined, stored_joined, none_behind, last_within, made_found}

abbrev seat_with : Seated → Journal → Seat
seat_with s j = record { member = s.member; journal = j }

-- the candidate that is spent is the one of that number
taken : (es : List Entrant) (n : ℕ) (x e : Entrant) → n < length es → x ≡ get_or es n x → slice_get es n ≡ Some e → x ≡ e
taken es n x e lt at found =
    let r : slice_get es n ≡ Some x = slice_get_read es (length es) n x refl lt at in
    cc

stored_world : (es : List Entrant) (ss : List Seated) (ms : List (List ℕ)) (ds : List Making) (js new : List Journal) (n : ℕ) (x e : Entrant) (s : Seated) (j : Journal)
    → AreStored ss ds js → AreMore js new → journal_at new s.journal ≡ j → x ≡ get_or es n x → n < length es → slice_get es n ≡ Some e
    → world_of (slice_set es n (spent x)) (ss ++ s ∷ []) ms ds new ≡ with_new_member (world_of es ss ms ds js) n e (seat_with s j)
stored_world es ss ms ds js new n x e s j h m is at lt found =
    ap (λ (y : Entrant). world_of (slice_set es n (spent y)) (ss ++ s ∷ []) ms ds new) (taken es n x e lt at found)
    ∙ member_joined es ss ms ds js new n e s h m
    ∙ ap (λ (k : Journal). with_new_member (world_of es ss ms ds js) n e (seat_with s k)) is

any_world : (w : World) (es : List Entrant) (ss : List Seated) (ms : List (List ℕ)) (ds : List Making) (js new : List Journal) (n : ℕ) (x e : Entrant) (s : Seated) (j : Journal)
    → world_of es ss ms ds js ≡ w → AreStored ss ds js → AreMore js new → journal_at new s.journal ≡ j → x ≡ get_or es n x → n < length w.entrants → slice_get w.entrants n ≡ Some e
    → world_of (slice_set es n (spent x)) (ss ++ s ∷ []) ms ds new ≡ with_new_member w n e (seat_with s j)
any_world w es ss ms ds js new n x e s j same h m is at =
    subst (λ (v : World). n < length v.entrants → slice_get v.entrants n ≡ Some e → world_of (slice_set es n (spent x)) (ss ++ s ∷ []) ms ds new ≡ with_new_member v n e (seat_with s j)) same
    (stored_world es ss ms ds js new n x e s j h m is at)

-- its journal is that of its number
last_is : (js new : List Journal) (n : ℕ) (j : Journal) → new ≡ js ++ j ∷ [] → n ≡ length js → journal_at new n ≡ j
last_is js new n j is at = rw (is, at) (journal_seam js j)

more_by : (js new : List Journal) (j : Journal) → new ≡ js ++ j ∷ [] → AreMore js new
more_by js new j is = record { more = j ∷ []; are = is }

abbrev seats_with : List Seated → Seated → List Seated
seats_with l s = l ++ s ∷ []

seats_are : (ss before after : List Seated) (s : Seated) → before ≡ ss → after ≡ before ++ s ∷ [] → after ≡ ss ++ s ∷ []
seats_are ss before after s b a = a ∙ ap (λ (l : List Seated). seats_with l s) b

-- ---- a journal begins here

pub begun_stored : (ss before after : List Seated) (ds : List Making) (js new : List Journal) (s : Seated) (j : Journal)
    → AreStored ss ds js → before ≡ ss → after ≡ before ++ s ∷ [] → new ≡ js ++ j ∷ [] → s.journal ≡ length js → AreStored after ds new
begun_stored ss before after ds js new s j h b a is at =
    let within : IsWithin new s.journal = rw (is, at) (last_within js j) in
    subst (λ (l : List Seated). AreStored l ds new) (sym (seats_are ss before after s b a)) (stored_joined ss ds js new s h (more_by js new j is) within)

pub begun_world : (w : World) (es : List Entrant) (ss before after : List Seated) (ms : List (List ℕ)) (ds : List Making) (js new : List Journal) (n : ℕ) (x y e : Entrant) (s : Seated) (j : Journal)
    → world_of es ss ms ds js ≡ w → AreStored ss ds js → before ≡ ss → after ≡ before ++ s ∷ [] → new ≡ js ++ j ∷ [] → s.journal ≡ length js
    → y ≡ x → x ≡ get_or es n x → n < length w.entrants → slice_get w.entrants n ≡ Some e
    → world_of (slice_set es n (spent y)) after ms ds new ≡ with_new_member w n e (seat_with s j)
begun_world w es ss before after ms ds js new n x y e s j same h b a is last seen at lt found =
    let there : y ≡ get_or es n y = subst (λ (z : Entrant). z ≡ get_or es n z) (sym seen) at in
    ap (λ (l : List Seated). world_of (slice_set es n (spent y)) l ms ds new) (seats_are ss before after s b a)
    ∙ any_world w es ss ms ds js new n y e s j same h (more_by js new j is) (last_is js new s.journal j is last) there lt found

-- ---- a journal goes on from a commit that was made

made_in : (w : World) (es : List Entrant) (ss : List Seated) (ms : List (List ℕ)) (ds : List Making) (js : List Journal) (i : ℕ) (d : Making) (x : CommitMade)
    → world_of es ss ms ds js ≡ w → AreStored ss ds js → d ≡ get_or ds i d → i < length w.commits → slice_get w.commits i ≡ Some x → journal_at js d.journal ≡ with_entry x.journal x.entry
made_in w es ss ms ds js i d x same h at =
    subst (λ (v : World). i < length v.commits → slice_get v.commits i ≡ Some x → journal_at js d.journal ≡ with_entry x.journal x.entry) same
    (λ lt found. made_found js ss ds i d x h (omega (arith, lt, length-map ds (commit_made_of js))) at found)

pub followed_world : (w : World) (es : List Entrant) (ss before after : List Seated) (ms : List (List ℕ)) (ds : List Making) (js : List Journal) (n : ℕ) (x y e : Entrant) (s : Seated) (i : ℕ) (d f : Making) (k : CommitMade)
    → world_of es ss ms ds js ≡ w → AreStored ss ds js → before ≡ ss → after ≡ before ++ s ∷ [] → s.journal ≡ f.journal → f ≡ d → i < length w.commits → d ≡ get_or ds i d → slice_get w.commits i ≡ Some k
    → y ≡ x → x ≡ get_or es n x → n < length w.entrants → slice_get w.entrants n ≡ Some e
    → world_of (slice_set es n (spent y)) after ms ds js ≡ with_new_member w n e (seat_with s (with_entry k.journal k.entry))
followed_world w es ss before after ms ds js n x y e s i d f k same h b a stands is within made found seen at lt there =
    let y_at : y ≡ get_or es n y = subst (λ (z : Entrant). z ≡ get_or es n z) (sym seen) at in
    let journal : journal_at js s.journal ≡ with_entry k.journal k.entry = ap (λ (i : ℕ). journal_at js i) (stands ∙ ap (λ (z : Making). z.journal) is) ∙ made_in w es ss ms ds js i d k same h made within found in
    ap (λ (l : List Seated). world_of (slice_set es n (spent y)) l ms ds js) (seats_are ss before after s b a)
    ∙ any_world w es ss ms ds js js n y e s (with_entry k.journal k.entry) same h (none_behind js) journal y_at lt there
