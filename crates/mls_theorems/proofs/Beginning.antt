-- A good world is kept by a new candidate and by the creation of a group.
use Rattle.std.proofs.Common.{◌≡◌, ℕ, Bool, false, not, List, [], ◌∷◌, ◌++◌, length, Option, Some, None, Ok, refl, sym, subst, ◌∙◌, slice_get, true≢false}
use Rattle.std.specs.List.{list_any}
use Rattle.std.specs.Str.{bytes_eq}
use Rattle.std.proofs.lemmas.Slice.Eq.{bytes_eq-Decides}
use Rattle.std.proofs.lemmas.Map.Keys.{any_passes_from_place}
use Rattle.std.proofs.lemmas.Bool.{not-true}
use Rattle.mls_wire.proofs.CheckLaws.{require_ok, then_ok, bind_ok, given_ok}
use Rattle.mls_wire.specs.Checks.{passed}
use Rattle.mls_wire.specs.Laws.{ok_is}
use Rattle.mls_suite.specs.Crypto.{Crypto, Lawful}
use Rattle.mls_treekem_model.specs.Seeds.{sign_seed}
use Rattle.mls_model.specs.declared.event.Reply.{Reply}
use Rattle.mls_model.specs.declared.origin.Origin.TheVariants as from
use Rattle.mls_model.specs.MemberInvariant.{IsGoodMember}
use Rattle.mls_model.specs.WorldCalls.{candidate_answer, create_answer}
use Rattle.mls_model.specs.Candidate.{Candidate, offered_leaf, signed_leaf, unsigned_leaf, signed_package, unsigned_package, package_message, new_candidate, create_group}
use Rattle.mls_model.specs.Invariant.{IsGoodBy, IsGoodWorld}
use Rattle.mls_model.specs.Journal.{CommitMade, new_journal}
use Rattle.mls_model.specs.Lineage.{IsReached}
use Rattle.mls_model.specs.Member.{Member}
use Rattle.mls_model.specs.Messages.{require_within_limit}
use Rattle.mls_model.specs.JournalState.{Creations}
use Rattle.mls_model.specs.World.{World, Entrant, Seat, entrant_at}
use Rattle.mls_theorems.proofs.Committed.{created_good}
use Rattle.mls_theorems.proofs.Offered.{candidate_good}
use Rattle.mls_theorems.proofs.Journals.{same_itself}
use Rattle.mls_theorems.proofs.Changes.{more_messages, more_entrants, one_message}
use Rattle.mls_theorems.proofs.Entering.{one_more}
use Rattle.mls_theorems.proofs.Lists.{get_length}
use Rattle.mls_theorems.proofs.Sources.{bytes_within}

-- ---- a candidate

-- what is said of a new one
record NewDid (c : Crypto) (seed : List ℕ) (k : Candidate) : Type 0 where
  key : k.offered.leaf_node.signature_key ≡ c.sig_public (sign_seed seed)
  within : require_within_limit (package_message k.offered) ≡ Ok passed

new_did : (c : Crypto) (identity seed : List ℕ) (k : Candidate) → new_candidate c identity seed ≡ Ok k → NewDid c seed k
unfolding new_candidate signed_package unsigned_package offered_leaf signed_leaf unsigned_leaf
new_did c identity seed k h =
    let s1 = require_ok _ _ _ _ h in
    let s2 = then_ok _ _ _ s1.1 in
    subst (NewDid c seed) (ok_is _ k s2.1) (record { key = refl; within = s2.0 })

abbrev has_key : List ℕ → Entrant → Bool
has_key key e = bytes_eq e.candidate.offered.leaf_node.signature_key key

pub candidate_kept : (c : Crypto) → Lawful c → (creations : Creations) (w : World) → IsGoodBy c creations w → (identity seed : List ℕ) (x : Reply × World) → candidate_answer c w identity seed ≡ Ok x → IsGoodWorld c x.1
unfolding candidate_answer
candidate_kept c laws creations w g identity seed x h =
    let key : List ℕ = c.sig_public (sign_seed seed) in
    let s1 = require_ok 93 (not (list_any (has_key key) w.entrants)) _ _ h in
    let s2 = bind_ok (new_candidate c identity seed) _ _ s1.1 in
    let k : Candidate = s2.0 in
    let did : NewDid c seed k = new_did c identity seed k s2.1 in
    let none : list_any (has_key key) w.entrants ≡ false = not-true (list_any (has_key key) w.entrants) s1.0 in
    let grown = more_entrants c creations w k g (candidate_good c laws identity seed k s2.1)
    (λ i e at same. true≢false (sym (any_passes_from_place (has_key key) w.entrants i e at ((bytes_eq-Decides _ _).1 (same ∙ did.key))) ∙ none)) in
    subst (λ (y : Reply × World). IsGoodWorld c y.1) (ok_is _ x s2.2)
    (creations, more_messages c creations _ (package_message k.offered ∷ []) grown (one_message (package_message k.offered) (bytes_within (package_message k.offered) did.within)))

-- ---- a group

-- a candidate that is there, and isn't spent
pub record IsUnspent (w : World) (n : ℕ) (e : Entrant) : Type 0 where
  pub is : slice_get w.entrants n ≡ Some e
  pub unspent : e.is_spent ≡ false

pub entrant_did : (w : World) (n : ℕ) (e : Entrant) → entrant_at w n ≡ Ok e → IsUnspent w n e
unfolding entrant_at
entrant_did w n e h =
    let s1 = bind_ok _ _ _ h in
    let s2 = require_ok _ _ _ _ s1.2 in
    subst (IsUnspent w n) (ok_is _ e s2.1) (record { is = given_ok 92 (slice_get w.entrants n) s1.0 s1.1; unspent = not-true s1.0.is_spent s2.0 })

record CreatedDid (k : Candidate) (m : Member) : Type 0 where
  signing : k.signing ≡ m.signing
  free : m.pending ≡ None

created_did : (c : Crypto) (k : Candidate) (group seed : List ℕ) (m : Member) → create_group c k group seed ≡ Ok m → CreatedDid k m
unfolding create_group
created_did c k group seed m h = let s = then_ok _ _ _ h in subst (CreatedDid k) (ok_is _ m s.1) (record { signing = refl; free = refl })

abbrev some_member : Member → Option Member
some_member m = Some m

alone : (c : Crypto) (creations : Creations) (made : List CommitMade) (k : ℕ) (m : Member) → slice_get creations k ≡ Some (Some m) → IsGoodMember c m → IsReached c creations made (from.Creation k) [] m
unfolding IsReached
alone c creations made k m at good = (record { first = m; is = at; same = same_itself m }, good)

pub create_kept : (c : Crypto) (creations : Creations) (w : World) → IsGoodBy c creations w → (n : ℕ) (group seed : List ℕ) (x : Reply × World) → create_answer c w n group seed ≡ Ok x → IsGoodWorld c x.1
unfolding create_answer
create_kept c creations w g n group seed x h =
    let s1 = bind_ok (entrant_at w n) _ _ h in
    let s2 = bind_ok (create_group c s1.0.candidate group seed) _ _ s1.2 in
    let u : IsUnspent w n s1.0 = entrant_did w n s1.0 s1.1 in
    let m : Member = s2.0 in
    let did : CreatedDid s1.0.candidate m = created_did c s1.0.candidate group seed m s2.1 in
    let good : IsGoodMember c m = created_good c s1.0.candidate group seed m (g.candidates n s1.0 u.is) s2.1 in
    let at : slice_get (creations ++ (Some m ∷ [])) (length w.seats) ≡ Some (Some m) = subst (λ (i : ℕ). slice_get (creations ++ (Some m ∷ [])) i ≡ Some (Some m)) g.seats (get_length creations (some_member m)) in
    let t : Seat = record { member = m; journal = new_journal (from.Creation (length w.seats)) } in
    subst (λ (y : Reply × World). IsGoodWorld c y.1) (ok_is _ x s2.2)
    (creations ++ (Some m ∷ []), one_more c creations w n s1.0 t (Some m) g u.is u.unspent did.signing did.free (alone c (creations ++ (Some m ∷ [])) w.commits (length w.seats) m at good))
