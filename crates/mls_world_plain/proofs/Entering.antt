-- Candidates and new members, in the order in which code goes over them.
use Rattle.std.proofs.Common.{◌≡◌, ℕ, ◌<◌, Bool, true, false, not, List, length, Option, Some, None, Result, Ok, Err, refl, sym, ap, subst, ◌∙◌, slice_get}
use Rattle.std.specs.List.{list_any}
use Rattle.std.specs.Str.{bytes_eq}
use Rattle.std.proofs.lemmas.Option.{slice_get_within}
use Rattle.mls_wire.specs.Checks.{Passed, require, require_some, ◌>>◌}
use Rattle.mls_wire.proofs.CheckLaws.{bind_ok, require_ok, given_ok}
use Rattle.mls_wire.specs.Laws.{ok_is}
use Rattle.mls_wire.specs.Reading.{◌>>=◌}
use Rattle.mls_suite.specs.Crypto.{Crypto}
use Rattle.mls_treekem_model.specs.Seeds.{sign_seed}
use Rattle.mls_model.specs.declared.event.Reply.{Reply}
use Rattle.mls_model.specs.declared.event.Reply.TheVariants as reply
use Rattle.mls_model.specs.declared.event.Source.{Source}
use Rattle.mls_model.specs.declared.origin.Origin.TheVariants as from
use Rattle.mls_model.specs.Candidate.{Candidate, new_candidate, create_group}
use Rattle.mls_model.specs.Journal.{CommitMade, new_journal, with_entry}
use Rattle.mls_model.specs.Member.{Member}
use Rattle.mls_model.specs.Join.{JoinedMember, join_verdict}
use Rattle.mls_model.specs.WorldCalls.{candidate_answer, create_answer, join_answer}
use Rattle.mls_model.specs.World.{Entrant, World, entrant_at, bytes_of, with_new_member, commit_for_joiner, joiner_journal}
use Rattle.mls_world_plain.specs.CallParts.{make_candidate, add_candidate}

-- ---- candidates

abbrev has_key : World → List ℕ → Bool
has_key w key = list_any (λ (e : Entrant). bytes_eq e.candidate.offered.leaf_node.signature_key key) w.entrants

pub key_taken : (c : Crypto) (w : World) (identity seed key : List ℕ) → key ≡ c.sig_public (sign_seed seed) → true ≡ has_key w key → make_candidate c w identity seed ≡ Err 93
unfolding make_candidate
key_taken c w identity seed key e taken =
    let a : has_key w (c.sig_public (sign_seed seed)) ≡ true = subst (λ (l : List ℕ). has_key w l ≡ true) e (sym taken) in
    rw a refl

pub key_free : (c : Crypto) (w : World) (identity seed key : List ℕ) → key ≡ c.sig_public (sign_seed seed) → false ≡ has_key w key → make_candidate c w identity seed ≡ new_candidate c identity seed
unfolding make_candidate
key_free c w identity seed key e free =
    let a : has_key w (c.sig_public (sign_seed seed)) ≡ false = subst (λ (l : List ℕ). has_key w l ≡ false) e (sym free) in
    rw a refl

then_bound : {A B : Type 0} (t : Result Passed ℕ) (r : Result A ℕ) (f : A → Result B ℕ) → ((t >> r) >>= f) ≡ (t >> (r >>= f))
then_bound (Ok x) r f = refl
then_bound (Err n) r f = refl

candidate_two : (c : Crypto) (w : World) (identity seed : List ℕ) → (make_candidate c w identity seed >>= λ k. add_candidate w k) ≡ candidate_answer c w identity seed
unfolding make_candidate candidate_answer
candidate_two c w identity seed = then_bound (require 93 (not (has_key w (c.sig_public (sign_seed seed))))) (new_candidate c identity seed) (λ k. add_candidate w k)

pub candidate_is : (c : Crypto) (w : World) (identity seed : List ℕ) (k : Candidate) → make_candidate c w identity seed ≡ Ok k → candidate_answer c w identity seed ≡ add_candidate w k
candidate_is c w identity seed k e = sym (candidate_two c w identity seed) ∙ (rw e refl)

pub candidate_refused : (c : Crypto) (w : World) (identity seed : List ℕ) (n : ℕ) → make_candidate c w identity seed ≡ Err n → candidate_answer c w identity seed ≡ Err n
candidate_refused c w identity seed n e = sym (candidate_two c w identity seed) ∙ (rw e refl)

-- ---- candidates by their numbers

abbrev some_entrant : Entrant → Option Entrant
some_entrant x = Some x

pub entrant_there : (w : World) (n : ℕ) (e : Entrant) → entrant_at w n ≡ Ok e → slice_get w.entrants n ≡ Some e
unfolding entrant_at
entrant_there w n e h =
    let b = bind_ok (require_some 92 (slice_get w.entrants n)) (λ (x : Entrant). require 91 (not x.is_spent) >> Ok x) e h in
    let same : b.0 ≡ e = ok_is _ _ (require_ok 91 (not b.0.is_spent) (Ok b.0) e b.2).1 in
    given_ok 92 (slice_get w.entrants n) b.0 b.1 ∙ ap (λ (x : Entrant). some_entrant x) same

pub entrant_within : (w : World) (n : ℕ) (e : Entrant) → entrant_at w n ≡ Ok e → n < length w.entrants
entrant_within w n e h = slice_get_within w.entrants n e (entrant_there w n e h)

-- ---- groups

pub create_is : (c : Crypto) (w new : World) (n k : ℕ) (group seed : List ℕ) (e : Entrant) (m : Member) → entrant_at w n ≡ Ok e → create_group c e.candidate group seed ≡ Ok m → k ≡ length w.seats
    → ((x : Entrant) → slice_get w.entrants n ≡ Some x → new ≡ with_new_member w n x (record { member = m; journal = new_journal (from.Creation (length w.seats)) }))
    → create_answer c w n group seed ≡ Ok (reply.Created k, new)
unfolding create_answer
create_is c w new n k group seed e m there made at h = rw (there, made, at, h e (entrant_there w n e there)) refl

pub create_absent : (c : Crypto) (w : World) (n : ℕ) (group seed : List ℕ) (i : ℕ) → entrant_at w n ≡ Err i → create_answer c w n group seed ≡ Err i
unfolding create_answer
create_absent c w n group seed i there = rw there refl

pub create_refused : (c : Crypto) (w : World) (n : ℕ) (group seed : List ℕ) (e : Entrant) (i : ℕ) → entrant_at w n ≡ Ok e → create_group c e.candidate group seed ≡ Err i → create_answer c w n group seed ≡ Err i
unfolding create_answer
create_refused c w n group seed e i there made = rw (there, made) refl

-- ---- joins

abbrev as_joined : ℕ → ℕ → World → Result (Reply × World) ℕ
as_joined k epoch w = Ok (reply.Joined k epoch, w)

join_by : (c : Crypto) (w : World) (n : ℕ) (source : Source) (bytes : List ℕ) (e : Entrant) (j : JoinedMember) (o : Option CommitMade) → entrant_at w n ≡ Ok e → bytes_of w source ≡ Ok bytes → join_verdict c e.candidate bytes ≡ Ok j → commit_for_joiner w.commits source e.candidate ≡ o
    → join_answer c w n source ≡ as_joined (length w.seats) j.member.public.context.epoch (with_new_member w n e (record { member = j.member; journal = joiner_journal o j.info }))
unfolding join_answer
join_by c w n source bytes e j o there lent joined made = rw (there, lent, joined, made) refl

pub join_begun : (c : Crypto) (w new : World) (n k epoch : ℕ) (source : Source) (bytes : List ℕ) (e : Entrant) (j : JoinedMember) → entrant_at w n ≡ Ok e → bytes_of w source ≡ Ok bytes → join_verdict c e.candidate bytes ≡ Ok j → commit_for_joiner w.commits source e.candidate ≡ None → k ≡ length w.seats → epoch ≡ j.member.public.context.epoch
    → ((x : Entrant) → slice_get w.entrants n ≡ Some x → new ≡ with_new_member w n x (record { member = j.member; journal = new_journal (from.GroupInfo j.info) }))
    → join_answer c w n source ≡ Ok (reply.Joined k epoch, new)
join_begun c w new n k epoch source bytes e j there lent joined made at in_epoch h =
    join_by c w n source bytes e j None there lent joined made ∙ (rw (at, in_epoch, h e (entrant_there w n e there)) refl)

pub join_followed : (c : Crypto) (w new : World) (n k epoch i : ℕ) (source : Source) (bytes : List ℕ) (e : Entrant) (j : JoinedMember) (d : CommitMade) → entrant_at w n ≡ Ok e → bytes_of w source ≡ Ok bytes → join_verdict c e.candidate bytes ≡ Ok j → commit_for_joiner w.commits source e.candidate ≡ Some d → k ≡ length w.seats → epoch ≡ j.member.public.context.epoch
    → ((x : Entrant) → slice_get w.entrants n ≡ Some x → new ≡ with_new_member w n x (record { member = j.member; journal = with_entry d.journal d.entry }))
    → join_answer c w n source ≡ Ok (reply.Joined k epoch, new)
join_followed c w new n k epoch i source bytes e j d there lent joined made at in_epoch h =
    join_by c w n source bytes e j (Some d) there lent joined made ∙ (rw (at, in_epoch, h e (entrant_there w n e there)) refl)

pub join_absent : (c : Crypto) (w : World) (n : ℕ) (source : Source) (i : ℕ) → entrant_at w n ≡ Err i → join_answer c w n source ≡ Err i
unfolding join_answer
join_absent c w n source i there = rw there refl

pub join_unread : (c : Crypto) (w : World) (n : ℕ) (source : Source) (e : Entrant) (i : ℕ) → entrant_at w n ≡ Ok e → bytes_of w source ≡ Err i → join_answer c w n source ≡ Err i
unfolding join_answer
join_unread c w n source e i there lent = rw (there, lent) refl

pub join_refused : (c : Crypto) (w : World) (n : ℕ) (source : Source) (bytes : List ℕ) (e : Entrant) (i : ℕ) → entrant_at w n ≡ Ok e → bytes_of w source ≡ Ok bytes → join_verdict c e.candidate bytes ≡ Err i → join_answer c w n source ≡ Err i
unfolding join_answer
join_refused c w n source bytes e i there lent joined = rw (there, lent, joined) refl
