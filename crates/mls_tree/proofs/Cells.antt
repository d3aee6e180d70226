-- What holds of each cell of a list of nodes, and of a blank one, holds of the parts of the list, and with blank cells
-- behind it.
use Rattle.std.proofs.Common.{ℕ, zero, suc, ◌+◌, ◌-◌, List, ◌++◌, length, get_or, take, drop, Option, None, refl, sym, subst, inl, inr, arith, length-take}
use Rattle.std.specs.Prelude.{replicate}
use Rattle.std.proofs.lemmas.List.{get_or-take, get_or-drop, get_or_past, get_or_append_left, get_or-append_right}
use Rattle.std.proofs.lemmas.Bool.{cases_lt}
use Rattle.mls_leaf.specs.declared.node.Node.{Node}

-- each cell of a list is so, and so are those past its end
abbrev pub Cells : (Option Node → Type 0) → List (Option Node) → Type 0
Cells P xs = (k : ℕ) → P (get_or xs k None)

pub of_front : (P : Option Node → Type 0) → P None → (n : ℕ) (xs : List (Option Node)) → Cells P xs → Cells P (take n xs)
of_front P blank n xs all k =
    elim (cases_lt k n) [
      | inl low ↦ subst P (sym (get_or-take n xs k None low)) (all k)
      | inr high ↦ subst P (sym (get_or_past (take n xs) k None (omega (arith, length-take n xs)))) blank
    ]

pub of_back : (P : Option Node → Type 0) (n : ℕ) (xs : List (Option Node)) → Cells P xs → Cells P (drop n xs)
of_back P n xs all k = subst P (sym (get_or-drop n xs k None)) (all (n + k))

of_blanks : (P : Option Node → Type 0) → P None → (n : ℕ) → Cells P (replicate n None)
of_blanks P blank zero k = blank
of_blanks P blank (suc n) zero = blank
of_blanks P blank (suc n) (suc k) = of_blanks P blank n k

pub of_padded : (P : Option Node → Type 0) → P None → (n : ℕ) (xs : List (Option Node)) → Cells P xs → Cells P (xs ++ replicate n None)
of_padded P blank n xs all k =
    elim (cases_lt k (length xs)) [
      | inl low ↦ subst P (sym (get_or_append_left xs (replicate n None) None k low)) (all k)
      | inr high ↦ subst P (sym (get_or-append_right xs (replicate n None) (length xs) k None refl high)) (of_blanks P blank n (k - length xs))
    ]
