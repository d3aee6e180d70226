-- The lines of a list, item by item.
use Rattle.std.proofs.Common.{◌≡◌, ◌∙◌, ◌<◌, ◌+◌, ℕ, zero, suc, List, [], ◌∷◌, ◌++◌, length, take, get_or, ap, sym, arith, append_assoc, append-nil}
use Rattle.std.specs.List.{enumerate_from, flat_map}
use Rattle.mls_cli_text.specs.Text.{Entry}
use Rattle.mls_cli_show.specs.Numbered.{numbered}

-- the lines of items numbered from n on
abbrev from : {X : Type 0} → (ℕ → X → List Entry) → ℕ → List X → List Entry
from lines n xs = flat_map (λ p. lines p.0 p.1) (enumerate_from n xs)

more_from : {X : Type 0} (lines : ℕ → X → List Entry) (n : ℕ) (xs : List X) (i : ℕ) (x : X) → i < length xs → x ≡ get_or xs i x
    → from lines n (take (suc i) xs) ≡ from lines n (take i xs) ++ lines (n + i) x
more_from lines n [] i x lt is = absurd (omega arith)
more_from lines n (y ∷ ys) zero x lt is =
    let same : n ≡ n + 0 = omega arith in
    append-nil (lines n y) ∙ (ap (lines n) (sym is) ∙ ap (λ k. lines k x) same)
more_from lines n (y ∷ ys) (suc i) x lt is =
    let same : n + 1 + i ≡ n + suc i = omega arith in
    ap (λ t. lines n y ++ t) (more_from lines (n + 1) ys i x (omega arith) is ∙ ap (λ k. from lines (n + 1) (take i ys) ++ lines k x) same)
    ∙ sym (append_assoc (lines n y) (from lines (n + 1) (take i ys)) (lines (n + suc i) x))

pub one_more : {X : Type 0} (lines : ℕ → X → List Entry) (xs : List X) (i : ℕ) (x : X) → i < length xs → x ≡ get_or xs i x
    → numbered lines (take (i + 1) xs) ≡ numbered lines (take i xs) ++ lines i x
one_more lines xs i x lt is =
    let same : 0 + i ≡ i = omega arith in
    let next : i + 1 ≡ suc i = omega arith in
    ap (λ k. numbered lines (take k xs)) next ∙ (more_from lines 0 xs i x lt is ∙ ap (λ k. numbered lines (take i xs) ++ lines k x) same)
