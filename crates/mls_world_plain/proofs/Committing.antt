-- What a commit call does to a world, in the order in which code goes over it.
use Rattle.std.proofs.Common.{◌≡◌, ℕ, zero, suc, ◌+◌, Bool, List, [], ◌∷◌, ◌++◌, length, Option, Some, None, Result, Ok, Err, refl, sym, ap, subst, ◌∙◌, slice_get, slice_set}
use Rattle.std.specs.Prelude.{option_map, is_some}
use Rattle.mls_wire.specs.Laws.{ok_is}
use Rattle.mls_wire.specs.Reading.{◌>>=◌}
use Rattle.mls_types.specs.declared.commit.ProposalOrRef.{ProposalOrRef}
use Rattle.mls_suite.specs.Crypto.{Crypto}
use Rattle.mls_model.specs.declared.event.WorldItem.{WorldItem}
use Rattle.mls_model.specs.declared.event.Reply.{Reply}
use Rattle.mls_model.specs.declared.event.Reply.TheVariants as reply
use Rattle.mls_model.specs.Journal.{names_in, adds_in}
use Rattle.mls_model.specs.Member.{Member, Pending, with_pending, without_pending}
use Rattle.mls_model.specs.Make.{Made, make, commit_call}
use Rattle.mls_model.specs.WorldCalls.{commit_messages, commit_record, commit_answer, drop_answer}
use Rattle.mls_model.specs.World.{Seat, World, with_member, items_of}
use Rattle.mls_world_plain.specs.CallParts.{commit_by, IsNamed, messages_with, record_commit}

-- ---- lists

pub set_there : {X : Type 0} (xs : List X) (k : ℕ) (x y : X) → slice_get xs k ≡ Some x → slice_get (slice_set xs k y) k ≡ Some y
set_there [] k x y h = absurd cc
set_there (z ∷ xs) zero x y h = refl
set_there (z ∷ xs) (suc k) x y h = set_there xs k x y h

set_back : {X : Type 0} (xs : List X) (k : ℕ) (x y : X) → slice_get xs k ≡ Some x → slice_set (slice_set xs k y) k x ≡ xs
set_back [] k x y h = refl
set_back (z ∷ xs) zero x y h = let e : z ≡ x = cc in cc
set_back (z ∷ xs) (suc k) x y h = ap (λ l. z ∷ l) (set_back xs k x y h)

-- ---- a commit of a member

abbrev change : World → ℕ → Seat → Made → (List ℕ × Option (List ℕ)) × World
change w k s m = ((m.commit, m.welcome), with_member w k s (with_pending s.member m.pending))

abbrev answer_of : Seat → Made → Result ((List ℕ × Option (List ℕ)) × Member) ℕ
answer_of s m = Ok ((m.commit, m.welcome), with_pending s.member m.pending)

abbrev outcome : World → ℕ → Seat → Result Made ℕ → Result ((List ℕ × Option (List ℕ)) × World) ℕ
outcome w k s r = (r >>= λ m. answer_of s m) >>= λ x. Ok (x.0, with_member w k s x.1)

-- what was made
pub record WasMade (c : Crypto) (w : World) (k : ℕ) (s : Seat) (list : List ProposalOrRef) (path : Bool) (seed : List ℕ) (x : List ℕ × Option (List ℕ)) (mid : World) : Type 0 where
  pub made : Made
  pub is_made : make c s.member list path seed ≡ Ok made
  pub messages : x ≡ (made.commit, made.welcome)
  pub world : mid ≡ with_member w k s (with_pending s.member made.pending)

made_so : (c : Crypto) (w : World) (k : ℕ) (s : Seat) (list : List ProposalOrRef) (path : Bool) (seed : List ℕ) (x : List ℕ × Option (List ℕ)) (mid : World) (r : Result Made ℕ) → make c s.member list path seed ≡ r → outcome w k s r ≡ Ok (x, mid) → WasMade c w k s list path seed x mid
made_so c w k s list path seed x mid (Ok m) e h = record { made = m; is_made = e; messages = sym (ap (λ y. y.0) (ok_is _ _ h)); world = sym (ap (λ y. y.1) (ok_is _ _ h)) }
made_so c w k s list path seed x mid (Err n) e h = absurd cc

pub was_made : (c : Crypto) (w : World) (k : ℕ) (s : Seat) (list : List ProposalOrRef) (path : Bool) (seed : List ℕ) (x : List ℕ × Option (List ℕ)) (mid : World) → slice_get w.seats k ≡ Some s → commit_by c w k list path seed ≡ Ok (x, mid) → WasMade c w k s list path seed x mid
unfolding commit_by commit_call
was_made c w k s list path seed x mid found h = made_so c w k s list path seed x mid (make c s.member list path seed) refl (rw found at h)

refused_so : (w : World) (k : ℕ) (s : Seat) (r : Result Made ℕ) (n : ℕ) → outcome w k s r ≡ Err n → r ≡ Err n
refused_so w k s (Ok m) n h = absurd cc
refused_so w k s (Err i) n h = cc

-- ---- the whole

same_messages : (m : Made) (o : Option (List ℕ)) → messages_with m.commit o ≡ commit_messages m o
same_messages m None = refl
same_messages m (Some welcome) = refl

-- what is recorded of it
abbrev the_outcome : Crypto → World → ℕ → Seat → List ProposalOrRef → Made → Reply × World
the_outcome c w k s list made = (
  reply.Commit (length w.messages) (option_map (λ (bytes : List ℕ). length w.messages + 1) made.welcome),
  record (with_member w k s (with_pending s.member made.pending)) { messages = w.messages ++ commit_messages made made.welcome; commits = w.commits ++ (commit_record w k s list made ∷ []) },
)

abbrev with_messages : Crypto → World → ℕ → Seat → List ProposalOrRef → Made → List (List ℕ) → Reply × World
with_messages c w k s list made more = (
  reply.Commit (length w.messages) (option_map (λ (bytes : List ℕ). length w.messages + 1) made.welcome),
  record (with_member w k s (with_pending s.member made.pending)) { messages = w.messages ++ more; commits = w.commits ++ (commit_record w k s list made ∷ []) },
)

abbrev the_answer : Reply × World → Result (Reply × World) ℕ
the_answer y = Ok y

pub commit_is : (c : Crypto) (w mid new : World) (k : ℕ) (items : List WorldItem) (path : Bool) (seed : List ℕ) (list : List ProposalOrRef) (s : Seat) (x : List ℕ × Option (List ℕ)) (names adds : List (List ℕ)) (said : Reply)
    → slice_get w.seats k ≡ Some s → items_of w items ≡ Ok list → commit_by c w k list path seed ≡ Ok (x, mid) → IsNamed s.member.kept list names adds
    → ((t : Seat) (p : Pending) → slice_get mid.seats k ≡ Some t → t.member.pending ≡ Some p → record_commit mid k t p.epoch_secret x names adds ≡ (said, new))
    → commit_answer c w k items path seed ≡ Ok (said, new)
unfolding commit_answer commit_record with_pending
commit_is c w mid new k items path seed list s x names adds said found listed does named h =
    let was = was_made c w k s list path seed x mid found does in
    let m = was.made in
    let t : Seat = record { member = with_pending s.member m.pending; journal = s.journal } in
    let there : slice_get mid.seats k ≡ Some t = ap (λ (v : World). slice_get v.seats k) was.world ∙ set_there w.seats k s t found in
    let e : record_commit mid k t m.pending.epoch_secret x names adds ≡ (said, new) = h t m.pending there refl in
    let same : messages_with m.commit m.welcome ≡ commit_messages m m.welcome = same_messages m m.welcome in
    let e1 : record_commit mid k t m.pending.epoch_secret x (names_in s.member.kept list) adds ≡ (said, new) = subst (λ (l : List (List ℕ)). record_commit mid k t m.pending.epoch_secret x l adds ≡ (said, new)) named.names_are e in
    let e2 : record_commit mid k t m.pending.epoch_secret x (names_in s.member.kept list) (adds_in s.member.kept list) ≡ (said, new) = subst (λ (l : List (List ℕ)). record_commit mid k t m.pending.epoch_secret x (names_in s.member.kept list) l ≡ (said, new)) named.adds_are e1 in
    let e3 : record_commit mid k t m.pending.epoch_secret (m.commit, m.welcome) (names_in s.member.kept list) (adds_in s.member.kept list) ≡ (said, new) = subst (λ (y : List ℕ × Option (List ℕ)). record_commit mid k t m.pending.epoch_secret y (names_in s.member.kept list) (adds_in s.member.kept list) ≡ (said, new)) was.messages e2 in
    let e4 : record_commit (with_member w k s (with_pending s.member m.pending)) k t m.pending.epoch_secret (m.commit, m.welcome) (names_in s.member.kept list) (adds_in s.member.kept list) ≡ (said, new) = subst (λ (v : World). record_commit v k t m.pending.epoch_secret (m.commit, m.welcome) (names_in s.member.kept list) (adds_in s.member.kept list) ≡ (said, new)) was.world e3 in
    let e5 : the_outcome c w k s list m ≡ record_commit (with_member w k s (with_pending s.member m.pending)) k t m.pending.epoch_secret (m.commit, m.welcome) (names_in s.member.kept list) (adds_in s.member.kept list) = ap (λ (l : List (List ℕ)). with_messages c w k s list m l) (sym same) in
    rw (found, listed, was.is_made) (ap (λ (y : Reply × World). the_answer y) (e5 ∙ e4))

pub items_refused : (c : Crypto) (w : World) (k : ℕ) (items : List WorldItem) (path : Bool) (seed : List ℕ) (s : Seat) (n : ℕ) → slice_get w.seats k ≡ Some s → items_of w items ≡ Err n → commit_answer c w k items path seed ≡ Err n
unfolding commit_answer
items_refused c w k items path seed s n found e = rw (found, e) refl

pub commit_refused : (c : Crypto) (w : World) (k : ℕ) (items : List WorldItem) (path : Bool) (seed : List ℕ) (list : List ProposalOrRef) (s : Seat) (n : ℕ) → slice_get w.seats k ≡ Some s → items_of w items ≡ Ok list → commit_by c w k list path seed ≡ Err n → commit_answer c w k items path seed ≡ Err n
unfolding commit_answer commit_by commit_call
commit_refused c w k items path seed list s n found e h =
    let d = refused_so w k s (make c s.member list path seed) n (rw found at h) in
    rw (found, e, d) refl

pub nobody : (c : Crypto) (w : World) (k : ℕ) (items : List WorldItem) (path : Bool) (seed : List ℕ) → slice_get w.seats k ≡ None → commit_answer c w k items path seed ≡ Err 90
unfolding commit_answer
nobody c w k items path seed e = rw e refl

-- ---- a commit that isn't recorded is forgotten

abbrev pends : Member → Option Pending → Member
pends m o = record m { pending = o }

restored : (m : Member) (p : Pending) → m.pending ≡ None → without_pending (with_pending m p) ≡ m
unfolding without_pending with_pending
restored m p e = ap (λ (o : Option Pending). pends m o) (sym e)

abbrev with_seats : World → List Seat → World
with_seats w seats = record w { seats = seats }

pub forgotten : (c : Crypto) (w mid new : World) (k : ℕ) (list : List ProposalOrRef) (path : Bool) (seed : List ℕ) (s : Seat) (x : List ℕ × Option (List ℕ)) → slice_get w.seats k ≡ Some s → s.member.pending ≡ None → commit_by c w k list path seed ≡ Ok (x, mid)
    → ((t : Seat) → slice_get mid.seats k ≡ Some t → new ≡ with_member mid k t (without_pending t.member)) → new ≡ w
forgotten c w mid new k list path seed s x found free does h =
    let was = was_made c w k s list path seed x mid found does in
    let m = was.made in
    let t : Seat = record { member = with_pending s.member m.pending; journal = s.journal } in
    let there : slice_get mid.seats k ≡ Some t = ap (λ (v : World). slice_get v.seats k) was.world ∙ set_there w.seats k s t found in
    let e : new ≡ with_member mid k t (without_pending t.member) = h t there in
    let back : without_pending t.member ≡ s.member = restored s.member m.pending free in
    let set : slice_set (slice_set w.seats k t) k s ≡ w.seats = set_back w.seats k s t found in
    let f1 : with_member mid k t (without_pending t.member) ≡ with_member mid k t s.member = ap (λ (y : Member). with_member mid k t y) back in
    let f2 : with_member mid k t s.member ≡ with_member (with_member w k s (with_pending s.member m.pending)) k t s.member = ap (λ (v : World). with_member v k t s.member) was.world in
    e ∙ f1 ∙ f2 ∙ ap (λ (seats : List Seat). with_seats w seats) set

-- ---- dropping

pub drop_is : (w new : World) (k : ℕ) (s : Seat) (had : Bool) → slice_get w.seats k ≡ Some s → had ≡ is_some s.member.pending → new ≡ with_member w k s (without_pending s.member) → drop_answer w k ≡ Ok (reply.Dropped had, new)
unfolding drop_answer
drop_is w new k s had found h e = rw (found, h, e) refl

pub drop_nobody : (w : World) (k : ℕ) → slice_get w.seats k ≡ None → drop_answer w k ≡ Err 90
unfolding drop_answer
drop_nobody w k e = rw e refl
