-- How walks over items go.
use Rattle.std.proofs.Common.{◌≡◌, ℕ, ◌+◌, ◌<◌, List, [], ◌∷◌, ◌++◌, length, Some, None, Ok, Err, sym, ap, subst, ◌∙◌, arith}
use Rattle.std.specs.List.{flat_map}
use Rattle.std.proofs.lemmas.List.{append-nil, length-append}
use Rattle.mls_wire.specs.Format.{Format}
use Rattle.mls_wire.specs.Reading.{opaque, opaque_at}
use Rattle.mls_wire.specs.Laws.{ok_is, opaque_again}
use Rattle.mls_wire.specs.Combine.{vector}
use Rattle.mls_wire.specs.CombineReads.{IsNonempty}
use Rattle.mls_leaf.specs.Faults.{Spells, IsPart}
use Rattle.mls_view.specs.Views.{AreItems, LendsNextItem}

-- the content of a vector is its items
pub walked : {V : Type 0} (format : Format V) (nonempty : IsNonempty format) (vs : List V) (bytes content rest : List ℕ) → Spells (vector format nonempty) vs bytes → opaque_at bytes ≡ Ok (content, rest) → AreItems format vs content
walked {V} format nonempty vs bytes content rest spells e =
    let whole : bytes ≡ opaque (flat_map format.spell vs) ++ [] = spells.spelled ∙ sym (append-nil (opaque (flat_map format.spell vs))) in
    let again : opaque_at bytes ≡ Ok (flat_map format.spell vs, []) = ap opaque_at whole ∙ opaque_again (flat_map format.spell vs) [] spells.fits.1 in
    record { fit = spells.fits.0; spelled = ap (λ (x : List ℕ × List ℕ). x.0) (ok_is (content, rest) (flat_map format.spell vs, []) (sym e ∙ again)) }

some_bytes : (x y : List ℕ) → 0 < length x → x ++ y ≡ [] → ⊥
some_bytes x y some e = let len : length x + length y ≡ 0 = sym (length-append x y) ∙ ap length e in omega arith

-- behind the last item nothing is left
pub none_left : {V : Type 0} (format : Format V) (nonempty : IsNonempty format) (vs : List V) (bytes : List ℕ) → AreItems format vs bytes → bytes ≡ [] → LendsNextItem format vs None bytes
none_left format nonempty [] bytes items nil = nil
none_left format nonempty (v ∷ vs) bytes items nil = some_bytes (format.spell v) (flat_map format.spell vs) (nonempty v items.fit.0) (sym items.spelled ∙ nil)

front_read : {V : Type 0} (format : Format V) (v : V) (vs : List V) (bytes : List ℕ) → AreItems format (v ∷ vs) bytes → format.read bytes ≡ Ok (v, flat_map format.spell vs)
front_read format v vs bytes items = ap format.read items.spelled ∙ format.lawful.again v (flat_map format.spell vs) items.fit.0

-- what is read at the front is the next item
pub next_item : {V : Type 0} (format : Format V) (nonempty : IsNonempty format) (vs : List V) (old part new : List ℕ) → AreItems format vs old → IsPart format old part new → LendsNextItem format vs (Some part) new
next_item format nonempty [] old part new items lent =
    some_bytes part new (subst (λ (l : List ℕ). 0 < length l) (sym lent.spells.spelled) (nonempty lent.value lent.spells.fits)) (sym lent.parts ∙ items.spelled)
next_item {V} format nonempty (v ∷ vs) old part new items lent =
    let same = ok_is (lent.value, new) (v, flat_map format.spell vs) (sym lent.is_read ∙ front_read format v vs old items) in
    (subst (λ (x : V). Spells format x part) (ap (λ (x : V × List ℕ). x.0) same) lent.spells, record { fit = items.fit.1; spelled = ap (λ (x : V × List ℕ). x.1) same })

-- where bytes are left, there is a next item
pub no_fault : {V : Type 0} (format : Format V) (vs : List V) (bytes new : List ℕ) (n : ℕ) → AreItems format vs bytes → (bytes ≡ [] → ⊥) → format.read bytes ≡ Err n → LendsNextItem format vs None new
no_fault format [] bytes new n items some e = absurd (some items.spelled)
no_fault format (v ∷ vs) bytes new n items some e = let read = front_read format v vs bytes items in absurd cc

pub is_shorter : {V : Type 0} (format : Format V) (nonempty : IsNonempty format) (old part new : List ℕ) → IsPart format old part new → length new < length old
is_shorter format nonempty old part new lent =
    let some : 0 < length part = subst (λ (l : List ℕ). 0 < length l) (sym lent.spells.spelled) (nonempty lent.value lent.spells.fits) in
    let len : length old ≡ length part + length new = ap length lent.parts ∙ length-append part new in
    omega arith
