use Rattle.std.proofs.Common.{◌≡◌, ℕ, Bool, false, get_or, replicate, arith, inl, inr}
use Rattle.std.proofs.lemmas.Bool.{cases_lt}
use Rattle.std.proofs.lemmas.List.{length-replicate, get_or-replicate, get_or_past}
use Rattle.mls_leaf.proofs.type_marks.no_marks.Goals as goal

unmarked : (n k : ℕ) → get_or (replicate n false) k false ≡ false
unmarked n k =
    elim (cases_lt k n) [
      | inl lt ↦ get_or-replicate n k false false lt
      | inr ge ↦ (let wide = length-replicate {A = Bool} n false in get_or_past (replicate n false) k false (omega arith))
    ]

pub returns : goal.returns
returns c = (length-replicate 4096 false, unmarked 4096)
