-- What proposing extensions does in a world, by its checks.
use Rattle.std.proofs.Common.{◌≡◌, ℕ, ◌<◌, Bool, true, false, List, length, None, Result, Ok, Err, refl, ap, slice_get}
use Rattle.std.specs.Global.{Vec}
use Rattle.mls_wire.specs.Checks.{require, ◌>>◌}
use Rattle.mls_wire.specs.Reading.{◌>>=◌}
use Rattle.mls_wire.proofs.CheckLaws.{require_ok}
use Rattle.mls_wire.specs.Laws.{ok_is}
use Rattle.mls_leaf.specs.GroupExtensions.{are_allowed}
use Rattle.mls_leaf.specs.declared.extension.Extension.{Extension}
use Rattle.mls_leaf.specs.declared.proposal.Proposal.TheVariants as proposal
use Rattle.mls_types.specs.declared.commit.ProposalOrRef.{ProposalOrRef}
use Rattle.mls_types.specs.declared.commit.ProposalOrRef.TheVariants as listed
use Rattle.mls_suite.specs.Crypto.{Crypto}
use Rattle.mls_model.specs.World.{World, Seat, seat_at, item_of}
use Rattle.mls_model.specs.declared.event.Reply.{Reply}
use Rattle.mls_model.specs.declared.event.WorldItem.TheVariants.{Extensions}
use Rattle.mls_model.specs.Propose.{propose_extensions}
use Rattle.mls_model.specs.WorldCalls.{proposal_answer, propose_extensions_answer}
use Rattle.mls_world_plain.specs.CallParts.{propose_allowed}
use Rattle.mls_world_plain.specs.Sources.{allowed_list}
use Rattle.mls_world_plain.proofs.EarlyChecks.{error, there}

abbrev the_item : List Extension → Result ProposalOrRef ℕ
the_item l = Ok (listed.Proposal (proposal.GroupContextExtensions l))

abbrev pub refused : ℕ → Result (Reply × World) ℕ
refused n = Err n

pub list_allowed : (list v : List Extension) → allowed_list list ≡ Ok v → (are_allowed list ≡ true) × (list ≡ v)
unfolding allowed_list
list_allowed list v h = let s = require_ok 14 (are_allowed list) (Ok list) v h in (s.0, ok_is list v s.1)

pub list_is : (list : List Extension) → are_allowed list ≡ true → allowed_list list ≡ Ok list
unfolding allowed_list
list_is list may = rw may refl

pub list_is_none : (list : List Extension) → are_allowed list ≡ false → allowed_list list ≡ Err 14
unfolding allowed_list
list_is_none list may = rw may refl

-- a test that failed, whatever stands behind it
test_alike : {A B : Type 0} (b : Bool) (x : A) (q : Result B ℕ) (n : ℕ) → (require 14 b >> Ok x) ≡ Err n → (require 14 b >> q) ≡ Err n
test_alike true x q n e = absurd cc
test_alike {A} {B} false x q n e = let same : 14 ≡ n = cc in ap (λ (i : ℕ). error {A = B} i) same

-- ---- items of a commit's list

pub item_extended : (w : World) (list : Vec Extension) (v : List Extension) → allowed_list list.items ≡ Ok v → item_of w (Extensions list) ≡ Ok (listed.Proposal (proposal.GroupContextExtensions v))
item_extended w list v h = let s = list_allowed list.items v h in rw s.0 (ap (λ (l : List Extension). the_item l) s.1)

pub item_not_extended : (w : World) (list : Vec Extension) (n : ℕ) → allowed_list list.items ≡ Err n → item_of w (Extensions list) ≡ Err n
unfolding allowed_list
item_not_extended w list n h = test_alike (are_allowed list.items) list.items (the_item list.items) n h

pub extended_refused : (w : World) (list : Vec Extension) (n : ℕ) → item_of w (Extensions list) ≡ Err n → allowed_list list.items ≡ Err n
unfolding allowed_list
extended_refused w list n h = test_alike (are_allowed list.items) (listed.Proposal (proposal.GroupContextExtensions list.items)) (Ok list.items) n h

-- ---- calls

module _ (c : Crypto) (w : World) (k : ℕ) (list : List Extension) where
  pub extending_nobody : slice_get w.seats k ≡ None → propose_extensions_answer c w k list ≡ Err 90
  unfolding propose_extensions_answer
  extending_nobody e = rw e refl

  pub extending_refused : k < length w.seats → are_allowed list ≡ false → propose_extensions_answer c w k list ≡ Err 14
  unfolding propose_extensions_answer
  extending_refused lt may = let s = there w.seats k lt in rw (s.1, may) refl

  -- extensions that a group may carry
  pub extending_allowed : are_allowed list ≡ true → propose_extensions_answer c w k list ≡ propose_allowed c w k list
  unfolding propose_extensions_answer propose_allowed
  extending_allowed may = of_seat (seat_at w k)
    where
      of_seat : (r : Result Seat ℕ) → (r >>= λ s. require 14 (are_allowed list) >> (propose_extensions c s.member list >>= λ x. Ok (proposal_answer w k s x))) ≡ (r >>= λ s. propose_extensions c s.member list >>= λ x. Ok (proposal_answer w k s x))
      of_seat (Ok s) = rw may refl
      of_seat (Err n) = refl

  pub list_not_allowed : (n : ℕ) → k < length w.seats → allowed_list list ≡ Err n → propose_extensions_answer c w k list ≡ Err n
  unfolding allowed_list propose_extensions_answer
  list_not_allowed n lt h = let s = there w.seats k lt in rw s.1 (test_alike (are_allowed list) list _ n h)
