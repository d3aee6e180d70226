-- Those whom a commit adds join by its Welcome, by its number or by its bytes.
use Rattle.std.proofs.Common.{◌≡◌, ℕ, true, false, not, List, [], ◌∷◌, ◌++◌, length, Option, Some, None, Result, Ok, refl, sym, ap, subst, ◌∙◌, slice_get, length-append, eqb-true, eq-eqb, true≢false}
use Rattle.std.specs.List.{list_any}
use Rattle.std.specs.Str.{bytes_eq}
use Rattle.std.proofs.lemmas.Bool.{and_parts, and_from}
use Rattle.std.proofs.lemmas.Slice.Eq.{bytes_eq-Decides}
use Rattle.mls_leaf.specs.KeyPackage.{key_package}
use Rattle.mls_suite.specs.Crypto.{Crypto, Lawful}
use Rattle.mls_model.specs.declared.event.Event.TheVariants.{Join}
use Rattle.mls_model.specs.declared.event.Reply.TheVariants.{Joined as HasJoined}
use Rattle.mls_model.specs.declared.event.Source.{Source}
use Rattle.mls_model.specs.declared.event.Source.TheVariants.{Given, Message}
use Rattle.mls_model.specs.WorldCalls.{join_answer}
use Rattle.mls_model.specs.Candidate.{Candidate}
use Rattle.mls_model.specs.Claims.{JoinsTo}
use Rattle.mls_model.specs.Headline.{JoinsGroup, IsAdded, JoinsByNumber, JoinsByBytes}
use Rattle.mls_model.specs.Invariant.{IsRecorded, IsGoodBy}
use Rattle.mls_model.specs.Join.{JoinedMember, join_verdict}
use Rattle.mls_model.specs.Journal.{CommitMade}
use Rattle.mls_model.specs.JournalState.{Creations}
use Rattle.mls_model.specs.Run.{answer, step}
use Rattle.mls_model.specs.World.{World, Entrant, Seat, entrant_at, bytes_of, has_source, commit_for_joiner, joiner_journal}
use Rattle.mls_model.proofs.WorldLaws.{is_for}
use Rattle.mls_theorems.proofs.WorldJoins.{joined_did, welcome_with, HasWelcome, welcome_by, joins_by}
use Rattle.mls_theorems.proofs.Lists.{get_length, find_stands, find_one}

-- ---- a join

unspent_at : (w : World) (n : ℕ) (e : Entrant) → slice_get w.entrants n ≡ Some e → e.is_spent ≡ false → entrant_at w n ≡ Ok e
unfolding entrant_at
unspent_at w n e at unspent = let u : not e.is_spent ≡ true = ap not unspent in rw (at, u) refl

-- what a join does, by the candidate's verdict
record JoinIs (c : Crypto) (w : World) (n : ℕ) (source : Source) (k : Candidate) (j : JoinedMember) : Type 0 where
  reply : (step c w (Join n source)).0 ≡ HasJoined (length w.seats) j.member.public.context.epoch
  seats : (step c w (Join n source)).1.seats ≡ w.seats ++ (record { member = j.member; journal = joiner_journal (commit_for_joiner w.commits source k) j.info } ∷ [])

join_is : (c : Crypto) (w : World) (n : ℕ) (source : Source) (e : Entrant) (bytes : List ℕ) (j : JoinedMember) → entrant_at w n ≡ Ok e → bytes_of w source ≡ Ok bytes → join_verdict c e.candidate bytes ≡ Ok j → JoinIs c w n source e.candidate j
unfolding step answer join_answer
join_is c w n source e bytes j at b h = record { reply = rw (at, b, h) refl; seats = rw (at, b, h) refl }

joins : (c : Crypto) (w : World) (n : ℕ) (source : Source) (e : Entrant) (bytes : List ℕ) (d f : CommitMade) (j : JoinedMember) → slice_get w.entrants n ≡ Some e → e.is_spent ≡ false → bytes_of w source ≡ Ok bytes → join_verdict c e.candidate bytes ≡ Ok j → commit_for_joiner w.commits source e.candidate ≡ Some f →
    j.member.epoch_secret ≡ f.epoch_secret → JoinsGroup c w n source f
joins c w n source e bytes d f j at unspent b h is epoch =
    let v = join_is c w n source e bytes j (unspent_at w n e at unspent) b h in
    let t : Seat = record { member = j.member; journal = joiner_journal (commit_for_joiner w.commits source e.candidate) j.info } in
    record {
      after = t;
      reply = v.reply;
      is_after = record { is = ap (λ (l : List Seat). slice_get l (length w.seats)) v.seats ∙ get_length w.seats t; active = (joined_did c e.candidate bytes j h).active };
      one_more = ap (λ (l : List Seat). length l) v.seats ∙ length-append w.seats (t ∷ []);
      journal = ap (λ (o : Option CommitMade). joiner_journal o j.info) is;
      epoch = epoch;
    }

-- ---- the commit that is found for it

-- there is one, for which this holds
record FoundFor (w : World) (source : Source) (k : Candidate) : Type 0 where
  which : CommitMade
  is : commit_for_joiner w.commits source k ≡ Some which
  place : ℕ
  stands : slice_get w.commits place ≡ Some which
  passes : has_source source which.welcome ≡ true
  adds : list_any (bytes_eq (key_package.spell k.offered)) which.adds ≡ true

found_for : (w : World) (source : Source) (k : Candidate) (i : ℕ) (d : CommitMade) → slice_get w.commits i ≡ Some d → is_for source k d ≡ true → FoundFor w source k
unfolding commit_for_joiner
found_for w source k i d at h =
    let f = find_one (is_for source k) w.commits i d at h in
    let s = find_stands (is_for source k) w.commits f.0 f.1 in
    let p = and_parts (has_source source f.0.welcome) (list_any (bytes_eq (key_package.spell k.offered)) f.0.adds) s.2 in
    record { which = f.0; is = f.1; place = s.0; stands = s.1; passes = p.0; adds = p.1 }

-- ---- by its number

has_number : (n : ℕ) (o : Option (ℕ × List ℕ)) → has_source (Message n) o ≡ true → (x : List ℕ) × (o ≡ Some (n, x))
has_number n None h = absurd (true≢false (sym h))
has_number n (Some x) h = let e : n ≡ x.0 = eqb-true n x.0 h in (x.1, ap (λ (i : ℕ). welcome_with i x.1) (sym e))

own_number : (n : ℕ) (o : Option (ℕ × List ℕ)) (bytes : List ℕ) → o ≡ Some (n, bytes) → has_source (Message n) o ≡ true
own_number n o bytes e = ap (has_source (Message n)) e ∙ eq-eqb n n refl

pub joins_by_number : (c : Crypto) → Lawful c → (creations : Creations) (w : World) → IsGoodBy c creations w → JoinsByNumber c w
joins_by_number c laws creations w g i n number bytes d e at welcome added =
    let r : IsRecorded c creations w d = g.records i d at in
    let k : Candidate = e.candidate in
    let f : FoundFor w (Message number) k = found_for w (Message number) k i d at (and_from (has_source (Message number) d.welcome) (list_any (bytes_eq (key_package.spell k.offered)) d.adds) (own_number number d.welcome bytes welcome) added.adds) in
    let x = has_number number f.which.welcome f.passes in
    let one : f.which ≡ d = g.numbers f.place i number x.0 bytes f.which d f.stands at x.1 welcome in
    let to : JoinsTo c k bytes r.call = joins_by c laws creations w d k bytes r (g.candidates n e added.is) (record { number = number; is = welcome }) added.adds in
    let b : bytes_of w (Message number) ≡ Ok bytes = let h = r.number number bytes welcome in rw h refl in
    let epoch : to.joined.member.epoch_secret ≡ f.which.epoch_secret = to.epoch ∙ sym r.epoch ∙ ap (λ (y : CommitMade). y.epoch_secret) (sym one) in
    subst (λ (y : CommitMade). JoinsGroup c w n (Message number) y) one (joins c w n (Message number) e bytes d f.which to.joined added.is added.unspent b to.is f.is epoch)

-- ---- by its bytes

abbrev answered : List ℕ → Result (List ℕ) ℕ
answered b = Ok b

given_bytes : (c : Crypto) → Lawful c → (creations : Creations) (w : World) → IsGoodBy c creations w → (i n number : ℕ) (bytes : List ℕ) (source : Source) (d : CommitMade) (e : Entrant) → slice_get w.commits i ≡ Some d → d.welcome ≡ Some (number, bytes) →
    bytes_of w source ≡ Ok bytes → has_source source d.welcome ≡ true → IsAdded w n e d → (f : CommitMade) × (commit_for_joiner w.commits source e.candidate ≡ Some f) × JoinsGroup c w n source f
given_bytes c laws creations w g i n number bytes source d e at welcome b h added =
    let k : Candidate = e.candidate in
    let f : FoundFor w source k = found_for w source k i d at (and_from (has_source source d.welcome) (list_any (bytes_eq (key_package.spell k.offered)) d.adds) h added.adds) in
    let r : IsRecorded c creations w f.which = g.records f.place f.which f.stands in
    let its : HasWelcome f.which bytes = welcome_by w source bytes f.which f.which.welcome refl r.number f.passes b in
    let to : JoinsTo c k bytes r.call = joins_by c laws creations w f.which k bytes r (g.candidates n e added.is) its f.adds in
    (f.which, f.is, joins c w n source e bytes d f.which to.joined added.is added.unspent b to.is f.is (to.epoch ∙ sym r.epoch))

pub joins_by_bytes : (c : Crypto) → Lawful c → (creations : Creations) (w : World) → IsGoodBy c creations w → JoinsByBytes c w
joins_by_bytes c laws creations w g i n number bytes (Given supplied) d e at welcome same added =
    given_bytes c laws creations w g i n number bytes (Given supplied) d e at welcome (ap answered same) (ap (has_source (Given supplied)) welcome ∙ (bytes_eq-Decides supplied.items bytes).1 same) added
joins_by_bytes c laws creations w g i n number bytes (Message m) d e at welcome same added = absurd same
