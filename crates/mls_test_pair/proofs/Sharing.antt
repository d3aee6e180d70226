-- Two commits and what they do: one that adds a candidate, and one of nothing.
use Rattle.std.proofs.Common.{◌≡◌, ℕ, true, List, [], Option, Some, None, Result, Ok, Err, refl, sym, subst}
use Rattle.std.specs.Prelude.{option_map, IfOk, IfErr}
use Rattle.std.specs.Global.{Vec}
use Rattle.std.specs.Str.{bytes_eq}
use Rattle.std.proofs.lemmas.Slice.Eq.{bytes_eq-Decides}
use Rattle.mls_wire.specs.Checks.{Answers}
use Rattle.mls_wire.specs.Laws.{bind_ok, ok_is}
use Rattle.mls_wire.specs.Reading.{◌>>=◌}
use Rattle.mls_leaf.specs.KeyPackage.{key_package}
use Rattle.mls_suite.specs.Crypto.{Crypto}
use Rattle.mls_tree_model.specs.Sets.{has}
use Rattle.mls_model.specs.declared.effect.Effect.{Effect}
use Rattle.mls_model.specs.Agreement.{Keeps}
use Rattle.mls_model.specs.MemberInvariant.{IsGoodCandidate}
use Rattle.mls_model.specs.Candidate.{Candidate}
use Rattle.mls_model.specs.Join.{JoinedMember, join_verdict}
use Rattle.mls_model.specs.Journal.{names_in, adds_in, removes_in}
use Rattle.mls_model.specs.Member.{KeptProposal, Member, find_proposals, named_proposals}
use Rattle.mls_model.specs.Proposals.{adds, removed_leaves}
use Rattle.mls_model.specs.Sharing.{ShareEpoch}
use Rattle.mls_model.specs.Verdict.{verdict}
use Rattle.mls_model.proofs.Sharing.{StaysBy, IsAddedBy, committer_takes, receiver_takes, receiver_shares, welcome_is, joiner_takes, joiner_shares}
use Rattle.mls_member.specs.declared.commit.Made.{Made}
use Rattle.mls_member.specs.declared.error.Refusal.{Refusal}
use Rattle.mls_member.specs.Answers.{ReachesAll}
use Rattle.mls_member.specs.Faults.{number_of}
use Rattle.mls_test_pair.specs.Pair.{addition_of, member_by_welcome, IsRefusedAs}

-- what is never refused is refused as anything
unrefused : {A B : Type 0} (defined : Result A ℕ) (other : Result B ℕ) (e : Refusal) → ((n : ℕ) → defined ≡ Err n → ⊥) → IsRefusedAs defined e → IsRefusedAs other e
unrefused defined other e never h memory = absurd (never (number_of e) (h memory))

-- and so at the end of a call
pub refused_still : {X A B : Type 0} (r : Result X Refusal) (e f : Refusal) (defined : Result A ℕ) (other : Result B ℕ) → r ≡ Err e → e ≡ f → ((n : ℕ) → defined ≡ Err n → ⊥) → IsRefusedAs defined f → IfErr r (IsRefusedAs other)
refused_still {X} r e f defined other is same never h =
    subst (λ (x : Result X Refusal). IfErr x (IsRefusedAs other)) (sym is) (unrefused defined other e never (subst (IsRefusedAs defined) (sym same) h))

pub refused_at_end : {X A B : Type 0} (value : X → A) (r : Result X Refusal) (defined : Result A ℕ) (other : Result B ℕ) → ((n : ℕ) → defined ≡ Err n → ⊥) → Answers value number_of defined r → IfErr r (IsRefusedAs other)
refused_at_end value (Ok x) defined other never h = tt
refused_at_end value (Err e) defined other never h = unrefused defined other e never h

-- ---- what lists do

keeps_none : (kept mine : List KeptProposal) → Keeps kept [] (names_in mine [])
unfolding Keeps names_in named_proposals
keeps_none kept mine = tt

stays_by_none : (m : Member) → StaysBy m []
unfolding removes_in find_proposals removed_leaves has
stays_by_none m = refl

is_added : (m : Member) (k : Candidate) → IsAddedBy m (addition_of k) k
unfolding adds_in find_proposals adds
is_added m k = let e : bytes_eq (key_package.spell k.offered) (key_package.spell k.offered) ≡ true = (bytes_eq-Decides (key_package.spell k.offered) (key_package.spell k.offered)).1 refl in rw e refl

-- ---- a join

entered_from : (c : Crypto) (k : Candidate) (bytes : List ℕ) (m : Member) → member_by_welcome c k bytes ≡ Ok m → (j : JoinedMember) × (join_verdict c k bytes ≡ Ok j) × (j.member ≡ m)
unfolding member_by_welcome
entered_from c k bytes m h =
    let s = bind_ok (join_verdict c k bytes) (λ (j : JoinedMember). Ok j.member) m h in
    (s.0, s.1, ok_is s.0.member m s.2)

entered_refused : (r : Result JoinedMember ℕ) (n : ℕ) → (r >>= λ (j : JoinedMember). Ok j.member) ≡ Err n → r ≡ Err n
entered_refused (Ok j) n h = absurd cc
entered_refused (Err d) n h = cc

refused_at_join : (c : Crypto) (k : Candidate) (bytes : List ℕ) (n : ℕ) → member_by_welcome c k bytes ≡ Err n → join_verdict c k bytes ≡ Err n
unfolding member_by_welcome
refused_at_join c k bytes n h = entered_refused (join_verdict c k bytes) n h

abbrev bytes_of : Option (Vec ℕ) → Option (List ℕ)
bytes_of o = option_map (λ (v : Vec ℕ). v.items) o

no_welcome : (o : Option (Vec ℕ)) (bytes : List ℕ) → o ≡ None → bytes_of o ≡ Some bytes → ⊥
no_welcome None bytes none some = absurd cc
no_welcome (Some v) bytes none some = absurd cc

welcome_bytes : (o : Option (Vec ℕ)) (v : Vec ℕ) (bytes : List ℕ) → o ≡ Some v → bytes ≡ v.items → bytes_of o ≡ Some bytes
welcome_bytes o v bytes is same = rw (is, same) refl

-- ---- a commit that adds a candidate

module _ (c : Crypto) (maker held : Member) (k : Candidate) (made : Made) (reaches : ReachesAll c maker held (addition_of k) made) where
  -- its maker follows it
  pub added_follows : (bytes : List ℕ) → bytes ≡ made.commit.items → (n : ℕ) → verdict c held bytes ≡ Err n → ⊥
  added_follows bytes is n h = committer_takes c maker held (addition_of k) made.commit.items (bytes_of made.welcome) reaches n (subst (λ (b : List ℕ). verdict c held b ≡ Err n) is h)

  -- there is a Welcome
  pub added_is_welcome : IsGoodCandidate c k → made.welcome ≡ None → ⊥
  added_is_welcome good none =
      let w = welcome_is c maker held (addition_of k) made.commit.items (bytes_of made.welcome) reaches k good (is_added maker k) in
      no_welcome made.welcome w.0 none w.1

  -- by which the candidate joins
  module _ (good : IsGoodCandidate c k) (v : Vec ℕ) (given : made.welcome ≡ Some v) (welcome : List ℕ) (same : welcome ≡ v.items) where
    pub added_enters : (n : ℕ) → member_by_welcome c k welcome ≡ Err n → ⊥
    added_enters n h = joiner_takes c maker held (addition_of k) made.commit.items (bytes_of made.welcome) reaches k good (is_added maker k) welcome n (welcome_bytes made.welcome v welcome given same) (refused_at_join c k welcome n h)

    added_shares : (bytes : List ℕ) (next m : Member) (e : Effect) → bytes ≡ made.commit.items → verdict c held bytes ≡ Ok (e, next) → member_by_welcome c k welcome ≡ Ok m → ShareEpoch c next m
    added_shares bytes next m e is own enters =
        let s = entered_from c k welcome m enters in
        subst (λ (x : Member). ShareEpoch c next x) s.2
        (joiner_shares c maker held (addition_of k) made.commit.items (bytes_of made.welcome) reaches k good (is_added maker k) welcome next e s.0 (welcome_bytes made.welcome v welcome given same) (subst (λ (b : List ℕ). verdict c held b ≡ Ok (e, next)) is own) s.1)

    pub added_shares_at_end : {X E : Type 0} (value : X → Member) (number : E → ℕ) (r : Result X E) (bytes : List ℕ) (next : Member) (e : Effect) → bytes ≡ made.commit.items → verdict c held bytes ≡ Ok (e, next) → Answers value number (member_by_welcome c k welcome) r → IfOk r (λ m. ShareEpoch c next (value m))
    added_shares_at_end value number (Ok x) bytes next e is own enters = added_shares bytes next (value x) e is own enters
    added_shares_at_end value number (Err x) bytes next e is own enters = tt

-- ---- a commit of nothing

module _ (c : Crypto) (maker held m : Member) (made : Made) (reaches : ReachesAll c maker held [] made) (shares : ShareEpoch c maker m) where
  -- another member takes it
  pub none_taken : (bytes : List ℕ) → bytes ≡ made.commit.items → (n : ℕ) → verdict c m bytes ≡ Err n → ⊥
  none_taken bytes is n h = receiver_takes c maker held [] made.commit.items (bytes_of made.welcome) reaches m shares (keeps_none m.kept maker.kept) (stays_by_none m) n (subst (λ (b : List ℕ). verdict c m b ≡ Err n) is h)

  -- and shares the next epoch with its maker
  pub none_shares : (mine bytes : List ℕ) (next after : Member) (e f : Effect) → mine ≡ made.commit.items → bytes ≡ made.commit.items → verdict c held mine ≡ Ok (e, next) → verdict c m bytes ≡ Ok (f, after) → ShareEpoch c next after
  none_shares mine bytes next after e f at is own other =
      receiver_shares c maker held [] made.commit.items (bytes_of made.welcome) reaches m shares (keeps_none m.kept maker.kept) (stays_by_none m) next after e f
      (subst (λ (b : List ℕ). verdict c held b ≡ Ok (e, next)) at own) (subst (λ (b : List ℕ). verdict c m b ≡ Ok (f, after)) is other)
