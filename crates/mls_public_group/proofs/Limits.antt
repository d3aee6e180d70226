-- Texts within the limit of messages, and beyond it; and what is read whole.
use Rattle.std.proofs.Common.{◌≡◌, ℕ, zero, suc, ◌<◌, ◌≤◌, ◌^◌, nat_lt, nat_le, ◌&&◌, Bool, true, false, List, [], ◌∷◌, length, Result, Ok, Err, refl, sym, ap, ◌∙◌, arith, inl, inr}
use Rattle.std.specs.List.{list_all}
use Rattle.std.proofs.lemmas.Bool.{lt-ltb, le-leb, lt-leb, leb-true, and_from, and_left, cases_lt, cond-true}
use Rattle.mls_wire.specs.Checks.{passed, require}
use Rattle.mls_wire.specs.Format.{Format, IsBytes}
use Rattle.mls_wire.specs.Whole.{whole}
use Rattle.mls_leaf.specs.Faults.{Spells}
use Rattle.mls_leaf.specs.Limits.{input_limit}
use Rattle.mls_model.specs.Messages.{are_bytes, require_within_limit}
use Rattle.mls_public_group.specs.Short.{IsBelow}

pub all_bytes : (bytes : List ℕ) → IsBytes bytes → list_all (λ (b : ℕ). nat_lt b 256) bytes ≡ true
all_bytes [] h = refl
all_bytes (b ∷ bs) h =
    let here : b < 256 = h zero in
    and_from (nat_lt b 256) (list_all (λ (b : ℕ). nat_lt b 256) bs) (lt-ltb b 256 here) (all_bytes bs (λ i. h (suc i)))

passes : (n : ℕ) (b : Bool) → b ≡ true → require n b ≡ Ok passed
passes n true e = refl
passes n false e = absurd cc

fails : (n : ℕ) (b : Bool) → b ≡ false → require n b ≡ Err n
fails n true e = absurd cc
fails n false e = refl

first_of : (n : ℕ) (a b : Bool) → require n (a && b) ≡ Ok passed → a ≡ true
first_of n true b e = refl
first_of n false b e = absurd cc

-- code's bytes are within the limit, if there aren't more
pub within_limit : (bytes : List ℕ) → IsBytes bytes → length bytes ≤ input_limit → require_within_limit bytes ≡ Ok passed
unfolding require_within_limit are_bytes
within_limit bytes h le = passes 6 _ (and_from (nat_le (length bytes) input_limit) (list_all (λ (b : ℕ). nat_lt b 256) bytes) (le-leb _ _ le) (all_bytes bytes h))

-- what is longer is refused
pub past_limit : (bytes : List ℕ) → input_limit < length bytes → require_within_limit bytes ≡ Err 6
unfolding require_within_limit
past_limit bytes lt = fails 6 _ (and_left (nat_le (length bytes) input_limit) (are_bytes bytes) (lt-leb _ _ lt))

-- and what isn't refused is no longer
pub length_within : (bytes : List ℕ) → require_within_limit bytes ≡ Ok passed → length bytes ≤ input_limit
unfolding require_within_limit
length_within bytes h = leb-true _ _ (first_of 6 _ _ h)

-- ---- what is read whole

abbrev too_long : {V : Type 0} → Result V ℕ
too_long = Err 6

-- what is read whole is within the limit
pub read_within : {V : Type 0} (format : Format V) (bytes : List ℕ) (v : V) → whole format input_limit bytes ≡ Ok v → length bytes ≤ input_limit
unfolding whole
read_within {V} format bytes v e =
    elim (cases_lt input_limit (length bytes)) [
      | inl over ↦ absurd (differ (sym (cond-true _ _ _ (lt-ltb input_limit (length bytes) over)) ∙ e))
      | inr within ↦ within
    ]
  where
    differ : too_long {V = V} ≡ Ok v → ⊥
    differ h = absurd cc

-- and so it is short
pub read_below : {V : Type 0} (format : Format V) (bytes : List ℕ) (v : V) → Spells format v bytes → whole format input_limit bytes ≡ Ok v → IsBelow (2 ^ 27) format v
read_below format bytes v spells e = record { fits = spells.fits; below = omega (arith, read_within format bytes v e, ap length spells.spelled) }

-- what has a value has no fault
pub no_fault : {V : Type 0} (r : Result V ℕ) (v : V) (n : ℕ) → r ≡ Ok v → r ≡ Err n → ⊥
no_fault (Ok w) v n e f = absurd cc
no_fault (Err k) v n e f = absurd cc
