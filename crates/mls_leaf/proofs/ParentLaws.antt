-- The laws of lists that rise, and of the parents that hold them.
use Rattle.std.proofs.Common.{◌≡◌, ℕ, zero, suc, ◌+◌, ◌<◌, ◌≤◌, Bool, true, false, cond, ◌&&◌, ltb, eqb, List, [], ◌∷◌, ◌++◌, length, get_or, take, drop, Result, Ok, Err, refl, sym, ap, subst, ◌∙◌, arith, inl, inr, append_assoc, ◌^◌}
use Rattle.std.specs.Prelude.{nat_le}
use Rattle.std.specs.List.{flat_map, AllByRecursion, insert}
use Rattle.std.proofs.lemmas.Bool.{cases_order, and_parts, lt-ltb, le-ltb, le-leb, lt-leb, leb-true, eq-eqb, ne_eqb}
use Rattle.std.proofs.lemmas.List.{at_drop_more, at_drop_all, take_more, take-append-drop}
use Rattle.mls_wire.specs.Reading.{◌>>=◌}
use Rattle.mls_wire.specs.Laws.{bind_ok, ok_is}
use Rattle.mls_wire.specs.CombineLaws.{chosen_by}
use Rattle.mls_wire.specs.Combine.{vector, uint32}
use Rattle.mls_wire.specs.Stateful.{vector_from}
use Rattle.mls_wire.specs.CombineReads.{if_passes}
use Rattle.mls_wire.specs.StatefulReads.{run_at, run_spelling, RunFits}
use Rattle.mls_leaf.specs.declared.error.LeafError.{LeafError}
use Rattle.mls_leaf.specs.Faults.{AddsSpelling}
use Rattle.mls_leaf.proofs.Codecs.{Refuses-whole}
use Rattle.mls_leaf.specs.Nonempty.{uint32_nonempty}
use Rattle.mls_leaf.specs.Parent.{rises_from, rising_with}
use Rattle.mls_leaf.specs.ParentNode.{rising_rule}

-- ---- an entry at a time

pub rises_from-nil : (low : ℕ) → rises_from low [] ≡ true
unfolding rises_from
rises_from-nil low = refl

pub rises_from-cons : (low x : ℕ) (xs : List ℕ) → rises_from low (x ∷ xs) ≡ (nat_le low x && rises_from (x + 1) xs)
unfolding rises_from
rises_from-cons low x xs = refl

pub rises_from-more : (low x : ℕ) (xs : List ℕ) → low ≤ x → rises_from low (x ∷ xs) ≡ rises_from (x + 1) xs
rises_from-more low x xs le = rises_from-cons low x xs ∙ ap (λ (b : Bool). b && rises_from (x + 1) xs) (le-leb low x le)

pub rises_from-stops : (low x : ℕ) (xs : List ℕ) → x < low → rises_from low (x ∷ xs) ≡ false
rises_from-stops low x xs lt = rises_from-cons low x xs ∙ ap (λ (b : Bool). b && rises_from (x + 1) xs) (lt-leb low x lt)

-- ---- what is read rises

pub run_rises : (fuel low : ℕ) (bytes vs : List ℕ) → run_at rising_rule fuel low bytes ≡ Ok vs → rises_from low vs ≡ true
run_rises fuel low [] vs e = subst (λ (l : List ℕ). rises_from low l ≡ true) (ok_is [] vs e) (rises_from-nil low)
run_rises zero low (b ∷ bytes) vs e = absurd cc
run_rises (suc fuel) low (b ∷ bytes) vs e =
    let a = bind_ok ((rising_rule.item low).read (b ∷ bytes)) (λ first. run_at rising_rule fuel (rising_rule.next low first.0) first.1 >>= λ others. Ok (first.0 ∷ others)) vs e in
    let t = bind_ok (run_at rising_rule fuel (rising_rule.next low a.0.0) a.0.1) (λ others. Ok (a.0.0 ∷ others)) vs a.2 in
    let passed = passes_test uint32.read low (b ∷ bytes) a.0.0 a.0.1 a.1 in
    subst (λ (l : List ℕ). rises_from low l ≡ true) (ok_is (a.0.0 ∷ t.0) vs t.2) (rises_from-more low a.0.0 t.0 passed ∙ run_rises fuel (a.0.0 + 1) a.0.1 t.0 t.1)
  where
    tested_is : (low : ℕ) (x y : ℕ × List ℕ) (b : Bool) → b ≡ nat_le low x.0 → chosen_by b 13 x ≡ Ok y → low ≤ y.0
    tested_is low x y true is e = subst (λ (z : ℕ × List ℕ). low ≤ z.0) (ok_is x y e) (leb-true low x.0 (sym is))
    tested_is low x y false is e = absurd cc

    passes_test : (read : List ℕ → Result (ℕ × List ℕ) ℕ) (low : ℕ) (bytes : List ℕ) (v : ℕ) (rest : List ℕ) → (read bytes >>= if_passes (nat_le low) 13) ≡ Ok (v, rest) → low ≤ v
    passes_test read low bytes v rest e =
        let a = bind_ok (read bytes) (if_passes (nat_le low) 13) (v, rest) e in
        tested_is low a.0 (v, rest) (nat_le low a.0.0) refl a.2

-- ---- rising entries are spelled as others are

pub run_spelling-rising : (low : ℕ) (xs : List ℕ) → run_spelling rising_rule low xs ≡ flat_map uint32.spell xs
run_spelling-rising low [] = refl
run_spelling-rising low (x ∷ xs) = ap (λ (l : List ℕ). uint32.spell x ++ l) (run_spelling-rising (x + 1) xs)

pub RunFits-rising : (low : ℕ) (xs : List ℕ) → rises_from low xs ≡ true → AllByRecursion uint32.Fits xs → RunFits rising_rule low xs
RunFits-rising low [] rise fits = tt
RunFits-rising low (x ∷ xs) rise fits =
    let both = and_parts (nat_le low x) (rises_from (x + 1) xs) (sym (rises_from-cons low x xs) ∙ rise) in
    ((fits.0, both.0), RunFits-rising (x + 1) xs both.1 fits.1)

pub RunFits-entries : (low : ℕ) (xs : List ℕ) → RunFits rising_rule low xs → AllByRecursion uint32.Fits xs
RunFits-entries low [] fits = tt
RunFits-entries low (x ∷ xs) fits = (fits.0.0, RunFits-entries (x + 1) xs fits.1)

pub rising_added : (xs old new : List ℕ) (r : Result (Unit {0}) LeafError) → rises_from 0 xs ≡ true → AddsSpelling (vector uint32 uint32_nonempty) xs old r new → AddsSpelling (vector_from rising_rule 0) xs old r new
rising_added xs old new (Ok _) rise h = rw (run_spelling-rising 0 xs) ((RunFits-rising 0 xs rise h.0.0, h.0.1), h.1)
rising_added xs old new (Err e) rise h =
    Refuses-whole ((vector uint32 uint32_nonempty).Fits xs) ((vector_from rising_rule 0).Fits xs) e
    (λ fits. (RunFits-entries 0 xs fits.0, subst (λ (l : List ℕ). length l < 2 ^ 30) (run_spelling-rising 0 xs) fits.1)) h

-- ---- a number put in

pub rising_with-nil : (x : ℕ) → rising_with x [] ≡ x ∷ []
unfolding rising_with
rising_with-nil x = refl

pub rising_with-cons : (x y : ℕ) (ys : List ℕ) → rising_with x (y ∷ ys) ≡ cond (ltb x y) (x ∷ y ∷ ys) (cond (eqb x y) (y ∷ ys) (y ∷ rising_with x ys))
unfolding rising_with
rising_with-cons x y ys = refl

pub rising_with-before : (x y : ℕ) (ys : List ℕ) → x < y → rising_with x (y ∷ ys) ≡ x ∷ y ∷ ys
rising_with-before x y ys lt = rising_with-cons x y ys ∙ rw (lt-ltb x y lt) refl

pub rising_with-there : (x y : ℕ) (ys : List ℕ) → x ≡ y → rising_with x (y ∷ ys) ≡ y ∷ ys
rising_with-there x y ys e = rising_with-cons x y ys ∙ rw (le-ltb x y (omega arith), eq-eqb x y e) refl

pub rising_with-behind : (x y : ℕ) (ys : List ℕ) → y < x → rising_with x (y ∷ ys) ≡ y ∷ rising_with x ys
rising_with-behind x y ys lt = rising_with-cons x y ys ∙ rw (le-ltb x y (omega arith), ne_eqb x y (λ e. omega arith)) refl

-- a rising list keeps rising
pub rises_from-rising_with : (low x : ℕ) (xs : List ℕ) → low ≤ x → rises_from low xs ≡ true → rises_from low (rising_with x xs) ≡ true
rises_from-rising_with low x [] le rise = rw (rising_with-nil x) (rises_from-more low x [] le ∙ rises_from-nil (x + 1))
rises_from-rising_with low x (y ∷ ys) le rise =
    let both = and_parts (nat_le low y) (rises_from (y + 1) ys) (sym (rises_from-cons low y ys) ∙ rise) in
    elim (cases_order x y) [
      | inl e ↦ rw (rising_with-there x y ys e) rise
      | inr (inl lt) ↦ rw (rising_with-before x y ys lt) (rises_from-more low x (y ∷ ys) le ∙ rises_from-more (x + 1) y ys (omega arith) ∙ both.1)
      | inr (inr lt) ↦ rw (rising_with-behind x y ys lt) (rises_from-more low y (rising_with x ys) (leb-true low y both.0) ∙ rises_from-rising_with (y + 1) x ys (omega arith) both.1)
    ]

-- the search for its place: what is in front of the place, and the number put into what is behind it
abbrev pub put_behind : ℕ → ℕ → List ℕ → List ℕ
put_behind i x xs = take i xs ++ rising_with x (drop i xs)

pub put_on : (xs : List ℕ) (i x y : ℕ) → i < length xs → y ≡ get_or xs i 0 → y < x → put_behind i x xs ≡ put_behind (i + 1) x xs
put_on xs i x y lt is below =
    ap (λ (l : List ℕ). take i xs ++ l) (at_drop_more (rising_with x) xs i 0 lt ∙ ap (λ (z : ℕ). rising_with x (z ∷ drop (i + 1) xs)) (sym is) ∙ rising_with-behind x y (drop (i + 1) xs) below)
    ∙ sym (append_assoc (take i xs) (y ∷ []) (rising_with x (drop (i + 1) xs)))
    ∙ ap (λ (l : List ℕ). l ++ rising_with x (drop (i + 1) xs)) (sym (take_more xs i 0 lt ∙ ap (λ (z : ℕ). take i xs ++ z ∷ []) (sym is)))

pub put_before : (xs : List ℕ) (i x y : ℕ) → i < length xs → y ≡ get_or xs i 0 → x < y → put_behind i x xs ≡ insert xs i x
put_before xs i x y lt is below =
    let next : drop i xs ≡ y ∷ drop (i + 1) xs = at_drop_more (λ (l : List ℕ). l) xs i 0 lt ∙ ap (λ (z : ℕ). z ∷ drop (i + 1) xs) (sym is) in
    ap (λ (l : List ℕ). take i xs ++ l) (ap (rising_with x) next ∙ rising_with-before x y (drop (i + 1) xs) below ∙ ap (λ (l : List ℕ). x ∷ l) (sym next))

pub put_there : (xs : List ℕ) (i x y : ℕ) → i < length xs → y ≡ get_or xs i 0 → x ≡ y → put_behind i x xs ≡ xs
put_there xs i x y lt is same =
    let next : drop i xs ≡ y ∷ drop (i + 1) xs = at_drop_more (λ (l : List ℕ). l) xs i 0 lt ∙ ap (λ (z : ℕ). z ∷ drop (i + 1) xs) (sym is) in
    ap (λ (l : List ℕ). take i xs ++ l) (ap (rising_with x) next ∙ rising_with-there x y (drop (i + 1) xs) same ∙ sym next) ∙ take-append-drop i xs

pub put_last : (xs : List ℕ) (i x : ℕ) → length xs ≤ i → put_behind i x xs ≡ insert xs i x
put_last xs i x le = ap (λ (l : List ℕ). take i xs ++ l) (at_drop_all (rising_with x) xs i le ∙ rising_with-nil x ∙ ap (λ (l : List ℕ). x ∷ l) (sym (at_drop_all (λ (l : List ℕ). l) xs i le)))
