-- Members that weren't removed, looked for one by one.
use Rattle.std.proofs.Common.{◌≡◌, ◌∙◌, ◌≤◌, ◌<◌, ◌⊎◌, inl, inr, ℕ, suc, ◌+◌, Bool, true, false, List, [], ◌∷◌, Option, Some, None, map, option_map, drop, length, get_or, slice_get, not, refl, ap, sym, arith, add-one, drop-cons}
use Rattle.std.proofs.lemmas.Option.{slice_get_cases}
use Rattle.std.proofs.lemmas.List.{drop_all}
use Rattle.mls_model.specs.Member.{Member}
use Rattle.mls_model.specs.World.{World, Seat}
use Rattle.mls_world_plain.specs.ActiveMembers.{active_from, active_behind, is_active, stays}

abbrev members : List Seat → List Member
members seats = map (λ (s : Seat). s.member) seats

-- ---- member k is there, or none is from there on

-- either the seat of member k stands first, or nothing is left
abbrev IsSplit : List Seat → ℕ → Type 0
IsSplit seats k =
    ((s : Seat) × (drop k seats ≡ s ∷ drop (k + 1) seats) × (slice_get seats k ≡ Some s)) ⊎ ((drop k seats ≡ []) × (drop (k + 1) seats ≡ []) × (slice_get seats k ≡ None))

split_by : (seats : List Seat) (k : ℕ)
    → ((x : Seat) × (k < length seats) × (slice_get seats k ≡ Some x) × (get_or seats k x ≡ x)) ⊎ ((length seats ≤ k) × (slice_get seats k ≡ None)) → IsSplit seats k
split_by seats k (inl (x, lt, at, same)) = inl (x, rw add-one (drop-cons seats k x lt ∙ ap (λ (y : Seat). y ∷ drop (suc k) seats) same), at)
split_by seats k (inr (le, none)) = inr (drop_all k seats le, drop_all (k + 1) seats (omega arith), none)

split : (seats : List Seat) (k : ℕ) → IsSplit seats k
split seats k = split_by seats k (slice_get_cases seats k).1

-- ---- a member that stays is the first, and one that was removed is passed

first_stays : (k : ℕ) (m : Member) (ms : List Member) → m.gone ≡ false → active_from k (m ∷ ms) ≡ k ∷ active_from (k + 1) ms
unfolding active_from
first_stays k m ms is = rw is refl

first_gone : (k : ℕ) (m : Member) (ms : List Member) → m.gone ≡ true → active_from k (m ∷ ms) ≡ active_from (k + 1) ms
unfolding active_from
first_gone k m ms is = rw is refl

none_active : (k : ℕ) → active_from k [] ≡ []
unfolding active_from
none_active k = refl

is_here : (b : Bool) → not b ≡ true → b ≡ false
is_here true e = absurd cc
is_here false e = refl

is_not_here : (b : Bool) → not b ≡ false → b ≡ true
is_not_here true e = refl
is_not_here false e = absurd cc

pub finds : (w : World) (k : ℕ) → is_active w k ≡ true → active_behind w k ≡ k ∷ active_behind w (k + 1)
finds w k is = by (split w.seats k)
  where
    by : IsSplit w.seats k → active_behind w k ≡ k ∷ active_behind w (k + 1)
    by (inl (s, first, at)) =
        rw first (first_stays k s.member (members (drop (k + 1) w.seats)) (is_here s.member.gone (sym (ap (λ (x : Option Seat). stays (option_map (λ (y : Seat). y.member) x)) at) ∙ is)))
    by (inr (here, behind, at)) = absurd cc

pub passes : (w : World) (k : ℕ) → is_active w k ≡ false → active_behind w k ≡ active_behind w (k + 1)
passes w k is = by (split w.seats k)
  where
    by : IsSplit w.seats k → active_behind w k ≡ active_behind w (k + 1)
    by (inl (s, first, at)) = rw first (first_gone k s.member (members (drop (k + 1) w.seats)) (is_not_here s.member.gone (sym (ap (λ (x : Option Seat). stays (option_map (λ (y : Seat). y.member) x)) at) ∙ is)))
    by (inr (here, behind, at)) = rw (here, behind) (none_active k ∙ sym (none_active (k + 1)))

pub none_left : (w : World) (k : ℕ) → length w.seats ≤ k → active_behind w k ≡ []
none_left w k le = rw (drop_all k w.seats le) (none_active k)
