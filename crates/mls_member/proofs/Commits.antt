-- The steps of a commit call.
use Rattle.std.proofs.Common.{◌≡◌, ℕ, ◌-◌, ◌^◌, Bool, true, false, not, nat_lt, List, Option, Some, None, Result, Ok, Err, refl, sym, subst, ◌∙◌}
use Rattle.std.specs.Prelude.{is_none, is_some}
use Rattle.mls_wire.specs.Checks.{require, ◌>>◌, DoesAs}
use Rattle.mls_wire.specs.Reading.{◌>>=◌}
use Rattle.mls_types.specs.declared.commit.ProposalOrRef.{ProposalOrRef}
use Rattle.mls_suite.specs.Crypto.{Crypto}
use Rattle.mls_model.specs.Make.{Made, make, commit_call, path_with, commit_from_change, commit_from_path, commit_from_proposals}
use Rattle.mls_model.specs.PublicState.{Used}
use Rattle.mls_model.specs.Member.{Member, find_proposals}
use Rattle.mls_member.specs.declared.error.Refusal.{Refusal}
use Rattle.mls_member.specs.Faults.{number_of}
use Rattle.mls_member.specs.Committing.{made_of_list, keep_pending}

-- 40, 67 and 66 come first
make_is : (c : Crypto) (m : Member) (list : List ProposalOrRef) (wants : Bool) (seed : List ℕ) → make c m list wants seed ≡ (require 40 (not m.gone) >> (require 67 (is_none m.pending) >> (require 66 (nat_lt m.public.context.epoch (2 ^ 64 - 1)) >> made_of_list c m list wants seed)))
unfolding make commit_from_proposals path_with commit_from_path commit_from_change
make_is c m list wants seed = refl

-- ---- what fails

pub is_gone : (c : Crypto) (m : Member) (list : List ProposalOrRef) (wants : Bool) (seed : List ℕ) → m.gone ≡ true → commit_call c m list wants seed ≡ Err 40
unfolding commit_call
is_gone c m list wants seed gone = rw (make_is c m list wants seed, gone) refl

some_pending : {P : Type 0} (o : Option P) → is_some o ≡ true → is_none o ≡ false
some_pending None h = absurd cc
some_pending (Some p) h = refl

no_pending : {P : Type 0} (o : Option P) → is_some o ≡ false → is_none o ≡ true
no_pending None h = refl
no_pending (Some p) h = absurd cc

pub is_pending : (c : Crypto) (m : Member) (list : List ProposalOrRef) (wants : Bool) (seed : List ℕ) → m.gone ≡ false → is_some m.pending ≡ true → commit_call c m list wants seed ≡ Err 67
unfolding commit_call
is_pending c m list wants seed here pending = rw (make_is c m list wants seed, here, some_pending m.pending pending) refl

pub is_last : (c : Crypto) (m : Member) (list : List ProposalOrRef) (wants : Bool) (seed : List ℕ) → m.gone ≡ false → is_some m.pending ≡ false → nat_lt m.public.context.epoch (2 ^ 64 - 1) ≡ false → commit_call c m list wants seed ≡ Err 66
unfolding commit_call
is_last c m list wants seed here none last = rw (make_is c m list wants seed, here, no_pending m.pending none, last) refl

-- ---- and then the list

-- the member is there, nothing is pending, and an epoch can come
pub record MayCommit (m : Member) : Type 0 where
  pub here : m.gone ≡ false
  pub none : is_some m.pending ≡ false
  pub room : nat_lt m.public.context.epoch (2 ^ 64 - 1) ≡ true

listed_is : (c : Crypto) (m : Member) (list : List ProposalOrRef) (wants : Bool) (seed : List ℕ) → MayCommit m → commit_call c m list wants seed ≡ (made_of_list c m list wants seed >>= keep_pending m)
unfolding commit_call
listed_is c m list wants seed may = rw (make_is c m list wants seed, may.here, no_pending m.pending may.none, may.room) refl

pub commit_fails : (c : Crypto) (m : Member) (list : List ProposalOrRef) (wants : Bool) (seed : List ℕ) (n : ℕ) → MayCommit m → made_of_list c m list wants seed ≡ Err n → commit_call c m list wants seed ≡ Err n
commit_fails c m list wants seed n may h = listed_is c m list wants seed may ∙ rw h refl

-- a commit call does this to a member
abbrev pub Commits : {B : Type 0} → (B → List ℕ × Option (List ℕ)) → Result ((List ℕ × Option (List ℕ)) × Member) ℕ → Member → Member → Result B Refusal → Type 0
Commits value defined old new result = DoesAs value number_of defined old new result

pub commit_does : {B : Type 0} (value : B → List ℕ × Option (List ℕ)) (c : Crypto) (m new : Member) (list : List ProposalOrRef) (wants : Bool) (seed : List ℕ) (made : Made) (result : Result B Refusal) → MayCommit m → made_of_list c m list wants seed ≡ Ok made
    → Commits value (keep_pending m made) m new result → Commits value (commit_call c m list wants seed) m new result
commit_does value c m new list wants seed made result may h does =
    let is : commit_call c m list wants seed ≡ keep_pending m made = listed_is c m list wants seed may ∙ rw h refl in
    subst (λ (r : Result ((List ℕ × Option (List ℕ)) × Member) ℕ). Commits value r m new result) (sym is) does

-- what is made of a list, by what it uses
pub used_is : (c : Crypto) (m : Member) (list : List ProposalOrRef) (wants : Bool) (seed : List ℕ) (used : List Used) (r : Result Made ℕ) → find_proposals m.kept m.keys.leaf list ≡ Ok used → commit_from_proposals c m list used wants seed ≡ r → made_of_list c m list wants seed ≡ r
used_is c m list wants seed used r e h = rw e h

-- by the code's names of both
pub made_is : (c : Crypto) (m : Member) (list mine : List ProposalOrRef) (wants : Bool) (seed : List ℕ) (used lent : List Used) (r : Result Made ℕ) → mine ≡ list → lent ≡ used → find_proposals m.kept m.keys.leaf list ≡ Ok used
    → (find_proposals m.kept m.keys.leaf mine ≡ Ok lent → commit_from_proposals c m mine lent wants seed ≡ r) → made_of_list c m list wants seed ≡ r
made_is c m list mine wants seed used lent r e1 e2 u f =
    let u' : find_proposals m.kept m.keys.leaf mine ≡ Ok lent = rw (e1, e2) u in
    let b : commit_from_proposals c m mine lent wants seed ≡ r = f u' in
    used_is c m list wants seed used r u (rw (e1, e2) at b)
