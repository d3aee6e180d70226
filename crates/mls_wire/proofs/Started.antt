-- What stands before a vector that was started, and what was written in it.
use Rattle.std.proofs.Common.{◌∙◌, ◌≡◌, ℕ, ◌+◌, List, [], ◌∷◌, ◌++◌, take, drop, length, ap, refl, append_assoc, arith}
use Rattle.std.proofs.lemmas.List.{take_at, drop_at, length_push}

pub started_before : (before content : List ℕ) → take (length before) ((before ++ 0 ∷ []) ++ content) ≡ before
started_before before content =
    ap (λ (l : List ℕ). take (length before) l) (append_assoc before (0 ∷ []) content)
    ∙ take_at before (0 ∷ content) (length before) refl

pub started_content : (before content : List ℕ) → drop (1 + length before) ((before ++ 0 ∷ []) ++ content) ≡ content
started_content before content = drop_at (before ++ 0 ∷ []) content (1 + length before) (omega (arith, length_push before 0))

pub ruleset started = (started_before, started_content)
