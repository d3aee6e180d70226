-- Items whose format depends on those before them: how they are spelled, and what reading gives.
use Rattle.std.specs.Prelude.{ℕ, zero, suc, List, [], ◌∷◌, ◌++◌, length, Result, Ok, Err}
use Rattle.mls_wire.specs.Reading.{◌>>=◌}
use Rattle.mls_wire.specs.Format.{Format}
use Rattle.mls_wire.specs.CombineReads.{IsNonempty}

-- how an item changes the state, and what an item is in a state
pub record Rule (S V : Type 0) : Type 1 where
  pub item : S → Format V
  pub next : S → V → S
  pub nonempty : (s : S) → IsNonempty (item s)

-- the items that all of the bytes spell, from a state on; the count of steps never runs out, as each item takes a byte
abbrev pub run_at : {S V : Type 0} → Rule S V → ℕ → S → List ℕ → Result (List V) ℕ
run_at rule fuel s [] = Ok []
run_at rule zero s (b ∷ bytes) = Err 2
run_at rule (suc fuel) s (b ∷ bytes) =
    (rule.item s).read (b ∷ bytes) >>= λ first.
    run_at rule fuel (rule.next s first.0) first.1 >>= λ others. Ok (first.0 ∷ others)

-- items are spelled one after the other, each by its format in the state that those before it lead to
abbrev pub run_spelling : {S V : Type 0} → Rule S V → S → List V → List ℕ
run_spelling rule s [] = []
run_spelling rule s (v ∷ vs) = (rule.item s).spell v ++ run_spelling rule (rule.next s v) vs

-- each item has a spelling in the state that those before it lead to
abbrev pub RunFits : {S V : Type 0} → Rule S V → S → List V → Type 0
RunFits rule s [] = Unit {0}
RunFits rule s (v ∷ vs) = (rule.item s).Fits v × RunFits rule (rule.next s v) vs

-- the items that the content of a vector spells, from a state on, and the bytes after the vector
abbrev pub run_read : {S V : Type 0} → Rule S V → S → List ℕ × List ℕ → Result (List V × List ℕ) ℕ
run_read rule s x = run_at rule (length x.0) s x.0 >>= λ vs. Ok (vs, x.1)
