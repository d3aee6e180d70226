-- What is read of a reader that is cut behind so many bytes.
use Rattle.std.proofs.Common.{◌≡◌, ℕ, List, [], ◌++◌, take, Option, Some, None, IfSome, ◌∙◌, ap, subst}
use Rattle.std.specs.Option.{option_map}
use Rattle.std.specs.Io.Take.{take_limit, take_inner, take_remaining}
use Rattle.std.specs.declared.io.traits.Take.{Take}
use Rattle.mls_cli_text.specs.InputFront.{AreFront}

front_of : (left : Option (List ℕ)) (most : ℕ) (old bs : List ℕ) → old ≡ [] → IfSome (option_map (take most) left) (λ (xs : List ℕ). bs ≡ old ++ xs) → AreFront most left bs
front_of None most old bs none read = tt
front_of (Some all) most old bs none read = read ∙ ap (λ ys. ys ++ take most all) none

pub front_read : {R : Type 0} (remaining : R → Option (List ℕ)) (cut : Take R) (reader : R) (most : ℕ) (old bs : List ℕ) → take_limit cut ≡ most → take_inner cut ≡ reader → old ≡ [] → IfSome (take_remaining remaining cut) (λ (xs : List ℕ). bs ≡ old ++ xs) → AreFront most (remaining reader) bs
front_read remaining cut reader most old bs limit inner none read =
    let left : take_remaining remaining cut ≡ option_map (take most) (remaining reader) =
    ap (λ n. option_map (take n) (remaining (take_inner cut))) limit ∙ ap (λ r. option_map (take most) (remaining r)) inner in
    front_of (remaining reader) most old bs none (subst (λ o. IfSome o (λ (xs : List ℕ). bs ≡ old ++ xs)) left read)
