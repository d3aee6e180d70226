-- Refusals of calls on a world that come before anything grows: what the checks refuse is refused by what they consist of.
use Rattle.std.proofs.Common.{◌≡◌, ℕ, Bool, true, false, zero, suc, ◌+◌, ◌<◌, List, [], ◌∷◌, length, Some, None, Result, Ok, Err, refl, sym, ap, subst, arith, get_or, slice_get}
use Rattle.mls_wire.specs.Checks.{Passed, passed, require, require_some, ◌>>◌}
use Rattle.mls_wire.proofs.CheckLaws.{bind_ok}
use Rattle.mls_wire.specs.Reading.{◌>>=◌}
use Rattle.mls_types.specs.declared.commit.ProposalOrRef.{ProposalOrRef}
use Rattle.mls_types.specs.declared.commit.ProposalOrRef.TheVariants as listed
use Rattle.mls_leaf.specs.GroupExtensions.{are_allowed}
use Rattle.mls_leaf.specs.declared.extension.Extension.{Extension}
use Rattle.mls_leaf.specs.declared.proposal.Proposal.TheVariants as proposal
use Rattle.mls_leaf.specs.declared.key_package.KeyPackage.{KeyPackage}
use Rattle.mls_tree.proofs.RefusalLaws.{one_number, not_refused}
use Rattle.mls_join.specs.Entrance.{welcome_outer_checks}
use Rattle.mls_member.specs.EarlyChecks.{early_checks as early_member_checks}
use Rattle.mls_model.specs.declared.event.Source.{Source}
use Rattle.mls_model.specs.declared.event.WorldItem.{WorldItem}
use Rattle.mls_model.specs.declared.event.WorldItem.TheVariants.{Add}
use Rattle.mls_model.specs.World.{Entrant, Seat, World, seat_at, entrant_at, bytes_of, package_in, package_of, item_of, items_of}
use Rattle.mls_model.specs.Messages.{decode_message}
use Rattle.mls_world_plain.specs.Sources.{read_package, allowed_list}
use Rattle.mls_world_plain.specs.EarlyChecks.{check_of, early_add_checks, early_extensions_checks, first_checks, early_commit_checks, early_delivery_checks, early_join_checks}

-- ---- steps

abbrev pub error : {A : Type 0} → ℕ → Result A ℕ
error n = Err n

pub unchecked : {A : Type 0} (r : Result A ℕ) (n : ℕ) → check_of r ≡ Err n → r ≡ Err n
unchecked (Ok x) n h = absurd cc
unchecked {A} (Err m) n h = let same : m ≡ n = cc in ap (λ (k : ℕ). error {A = A} k) same

-- a check that failed
pub required_is : (m : ℕ) (b : Bool) (n : ℕ) → require m b ≡ Err n → m ≡ n
required_is m true n h = absurd cc
required_is m false n h = cc

-- behind a step with a value
pub behind : {A B : Type 0} (r : Result A ℕ) (f : A → Result B ℕ) (x : A) (n : ℕ) → r ≡ Ok x → (r >>= f) ≡ Err n → f x ≡ Err n
behind {A} {B} r f x n is h = subst (λ (q : Result A ℕ). (q >>= f) ≡ Err n) is h

-- at a step that is refused
pub at_first : {A B : Type 0} (r : Result A ℕ) (f : A → Result B ℕ) (m n : ℕ) → r ≡ Err m → (r >>= f) ≡ Err n → m ≡ n
at_first {A} {B} r f m n is h = one_number (r >>= f) m (ap (λ (q : Result A ℕ). q >>= f) is) n h

-- ---- members

pub there : {X : Type 0} (xs : List X) (k : ℕ) → k < length xs → (x : X) × (slice_get xs k ≡ Some x)
there [] k lt = absurd (omega arith)
there (x ∷ xs) zero lt = (x, refl)
there (x ∷ xs) (suc k) lt = there xs k (omega arith)

pub somebody : (w : World) (k : ℕ) (s : Seat) → slice_get w.seats k ≡ Some s → seat_at w k ≡ Ok s
somebody w k s e = rw e refl

pub nobody : (w : World) (k : ℕ) → slice_get w.seats k ≡ None → seat_at w k ≡ Err 90
nobody w k e = rw e refl

-- no member that is there is refused
pub is_there : (w : World) (k n : ℕ) → k < length w.seats → seat_at w k ≡ Err n → ⊥
is_there w k n lt h = let s = there w.seats k lt in not_refused (seat_at w k) s.0 (somebody w k s.0 s.1) n h

pub not_there : (w : World) (k n : ℕ) → slice_get w.seats k ≡ None → seat_at w k ≡ Err n → 90 ≡ n
not_there w k n e h = one_number (seat_at w k) 90 (nobody w k e) n h

-- ---- KeyPackages of sources

pub package_unlent : (w : World) (source : Source) (m n : ℕ) → bytes_of w source ≡ Err m → package_of w source ≡ Err n → m ≡ n
unfolding package_of
package_unlent w source m n is h = at_first (bytes_of w source) (λ bytes. decode_message bytes >>= λ v. require_some 95 (package_in v)) m n is h

pub package_lent : (w : World) (source : Source) (bytes : List ℕ) (n : ℕ) → bytes_of w source ≡ Ok bytes → package_of w source ≡ Err n → read_package bytes ≡ Err n
unfolding package_of read_package
package_lent w source bytes n is h = behind (bytes_of w source) (λ bytes. decode_message bytes >>= λ v. require_some 95 (package_in v)) bytes n is h

-- ---- adds

pub add_nobody : (w : World) (k : ℕ) (source : Source) (n : ℕ) → slice_get w.seats k ≡ None → early_add_checks w k source ≡ Err n → 90 ≡ n
unfolding early_add_checks
add_nobody w k source n e h = at_first (seat_at w k) (λ s. check_of (package_of w source)) 90 n (nobody w k e) h

pub add_refused : (w : World) (k : ℕ) (source : Source) (n : ℕ) → k < length w.seats → early_add_checks w k source ≡ Err n → package_of w source ≡ Err n
unfolding early_add_checks
add_refused w k source n lt h =
    let s = there w.seats k lt in
    unchecked (package_of w source) n (behind (seat_at w k) (λ s. check_of (package_of w source)) s.0 n (somebody w k s.0 s.1) h)

-- ---- extensions

pub extensions_nobody : (w : World) (k : ℕ) (list : List Extension) (n : ℕ) → slice_get w.seats k ≡ None → early_extensions_checks w k list ≡ Err n → 90 ≡ n
unfolding early_extensions_checks
extensions_nobody w k list n e h = at_first (seat_at w k) (λ s. require 14 (are_allowed list)) 90 n (nobody w k e) h

extensions_judged : (w : World) (k : ℕ) (list : List Extension) (n : ℕ) → k < length w.seats → early_extensions_checks w k list ≡ Err n → require 14 (are_allowed list) ≡ Err n
unfolding early_extensions_checks
extensions_judged w k list n lt h =
    let s = there w.seats k lt in
    behind (seat_at w k) (λ s. require 14 (are_allowed list)) s.0 n (somebody w k s.0 s.1) h

pub extensions_refused : (w : World) (k : ℕ) (list : List Extension) (n : ℕ) → k < length w.seats → early_extensions_checks w k list ≡ Err n → 14 ≡ n
extensions_refused w k list n lt h = required_is 14 (are_allowed list) n (extensions_judged w k list n lt h)

pub extensions_pass : (w : World) (k : ℕ) (list : List Extension) (n : ℕ) → k < length w.seats → are_allowed list ≡ true → early_extensions_checks w k list ≡ Err n → ⊥
extensions_pass w k list n lt may h = not_refused (require 14 (are_allowed list)) passed (rw may refl) n (extensions_judged w k list n lt h)

-- a list that is copied
pub list_refused : (w : World) (k : ℕ) (list : List Extension) (n : ℕ) → k < length w.seats → early_extensions_checks w k list ≡ Err n → allowed_list list ≡ Err n
unfolding allowed_list
list_refused w k list n lt h = of_check (require 14 (are_allowed list)) (extensions_judged w k list n lt h)
  where
    of_check : (r : Result Passed ℕ) → r ≡ Err n → (r >> Ok list) ≡ Err n
    of_check (Ok x) e = absurd cc
    of_check (Err m) e = let same : m ≡ n = cc in ap (λ (i : ℕ). error {A = List Extension} i) same

-- ---- lists of commits

-- a KeyPackage that is added
pub item_refused : (w : World) (source : Source) (n : ℕ) → item_of w (Add source) ≡ Err n → package_of w source ≡ Err n
item_refused w source n h = of_package (package_of w source) h
  where
    of_package : (r : Result KeyPackage ℕ) → (r >>= λ offered. Ok (listed.Proposal (proposal.Add offered))) ≡ Err n → r ≡ Err n
    of_package (Ok x) h = absurd cc
    of_package (Err m) h = let same : m ≡ n = cc in ap (λ (k : ℕ). error {A = KeyPackage} k) same

-- the first of a list that is gone past wasn't refused
abbrev pub IsPast : World → List WorldItem → ℕ → Type 0
IsPast w items i = 0 < i → first_checks w items ≡ Ok passed

pub past_none : (w : World) (items : List WorldItem) → IsPast w items 0
past_none w items = λ lt. absurd (omega arith)

pub past_next : (w : World) (items : List WorldItem) (i : ℕ) (x : WorldItem) (y : ProposalOrRef) → i < length items → x ≡ get_or items i x → item_of w x ≡ Ok y → IsPast w items i → IsPast w items (i + 1)
past_next w [] i x y lt at is past = absurd (omega arith)
past_next w (z ∷ zs) zero x y lt at is past = λ _. let e : item_of w z ≡ Ok y = subst (λ (v : WorldItem). item_of w v ≡ Ok y) at is in rw e refl
past_next w (z ∷ zs) (suc i) x y lt at is past = λ _. past (omega arith)

-- the item at which it stops is the first
pub first_refused : (w : World) (items : List WorldItem) (i : ℕ) (x : WorldItem) (n : ℕ) → i < length items → x ≡ get_or items i x → IsPast w items i → first_checks w items ≡ Err n → item_of w x ≡ Err n
first_refused w [] i x n lt at past h = absurd (omega arith)
first_refused w (z ∷ zs) zero x n lt at past h = subst (λ (v : WorldItem). item_of w v ≡ Err n) (sym at) (unchecked (item_of w z) n h)
first_refused w (z ∷ zs) (suc i) x n lt at past h = absurd (not_refused (first_checks w (z ∷ zs)) passed (past (omega arith)) n h)

-- a list that stands for something
pub list_passes : (w : World) (items : List WorldItem) (list : List ProposalOrRef) (n : ℕ) → items_of w items ≡ Ok list → first_checks w items ≡ Err n → ⊥
unfolding items_of
list_passes w [] list n is h = cc
list_passes w (x ∷ xs) list n is h =
    let b = bind_ok (item_of w x) (λ y. items_of w xs >>= λ ys. Ok (y ∷ ys)) list is in
    not_refused (item_of w x) b.0 b.1 n (unchecked (item_of w x) n h)

-- ---- commits

pub commit_nobody : (w : World) (k : ℕ) (items : List WorldItem) (n : ℕ) → slice_get w.seats k ≡ None → early_commit_checks w k items ≡ Err n → 90 ≡ n
unfolding early_commit_checks
commit_nobody w k items n e h = at_first (seat_at w k) (λ s. first_checks w items) 90 n (nobody w k e) h

pub commit_refused : (w : World) (k : ℕ) (items : List WorldItem) (n : ℕ) → k < length w.seats → early_commit_checks w k items ≡ Err n → first_checks w items ≡ Err n
unfolding early_commit_checks
commit_refused w k items n lt h =
    let s = there w.seats k lt in
    behind (seat_at w k) (λ s. first_checks w items) s.0 n (somebody w k s.0 s.1) h

pub commit_passes : (w : World) (k : ℕ) (items : List WorldItem) (list : List ProposalOrRef) (n : ℕ) → k < length w.seats → items_of w items ≡ Ok list → early_commit_checks w k items ≡ Err n → ⊥
commit_passes w k items list n lt is h = list_passes w items list n is (commit_refused w k items n lt h)

-- ---- deliveries

-- what is checked of bytes that a source gives
abbrev pub of_source : World → Source → (List ℕ → Result Passed ℕ) → Result Passed ℕ
of_source w source checks = bytes_of w source >>= checks

pub delivery_nobody : (w : World) (k : ℕ) (source : Source) (n : ℕ) → slice_get w.seats k ≡ None → early_delivery_checks w k source ≡ Err n → 90 ≡ n
unfolding early_delivery_checks
delivery_nobody w k source n e h = at_first (seat_at w k) (λ s. of_source w source (early_member_checks s.member)) 90 n (nobody w k e) h

module _ (w : World) (k : ℕ) (source : Source) (s : Seat) (n : ℕ) (e : slice_get w.seats k ≡ Some s) (h : early_delivery_checks w k source ≡ Err n) where
  of_bytes : of_source w source (early_member_checks s.member) ≡ Err n
  unfolding early_delivery_checks
  of_bytes = behind (seat_at w k) (λ s. of_source w source (early_member_checks s.member)) s n (somebody w k s e) h

  pub delivery_unlent : (m : ℕ) → bytes_of w source ≡ Err m → m ≡ n
  delivery_unlent m is = at_first (bytes_of w source) (early_member_checks s.member) m n is of_bytes

  pub delivery_refused : (bytes : List ℕ) → bytes_of w source ≡ Ok bytes → early_member_checks s.member bytes ≡ Err n
  delivery_refused bytes is = behind (bytes_of w source) (early_member_checks s.member) bytes n is of_bytes

-- ---- joins

pub join_nobody : (number : ℕ) (w : World) (k : ℕ) (source : Source) (m n : ℕ) → entrant_at w k ≡ Err m → early_join_checks number w k source ≡ Err n → m ≡ n
unfolding early_join_checks
join_nobody number w k source m n e h = at_first (entrant_at w k) (λ x. of_source w source (welcome_outer_checks number)) m n e h

module _ (number : ℕ) (w : World) (k : ℕ) (source : Source) (x : Entrant) (n : ℕ) (e : entrant_at w k ≡ Ok x) (h : early_join_checks number w k source ≡ Err n) where
  of_welcome : of_source w source (welcome_outer_checks number) ≡ Err n
  unfolding early_join_checks
  of_welcome = behind (entrant_at w k) (λ x. of_source w source (welcome_outer_checks number)) x n e h

  pub join_unlent : (m : ℕ) → bytes_of w source ≡ Err m → m ≡ n
  join_unlent m is = at_first (bytes_of w source) (welcome_outer_checks number) m n is of_welcome

  pub join_refused : (bytes : List ℕ) → bytes_of w source ≡ Ok bytes → welcome_outer_checks number bytes ≡ Err n
  join_refused bytes is = behind (bytes_of w source) (welcome_outer_checks number) bytes n is of_welcome
