-- A test of each item of a list that is mapped.
use Rattle.std.proofs.Common.{◌≡◌, Bool, ◌&&◌, List, [], ◌∷◌, map, ap, refl}
use Rattle.std.specs.List.{list_all}

pub list_all-map : {A B : Type 0} (f : A → B) (test : B → Bool) (xs : List A) → list_all (λ x. test (f x)) xs ≡ list_all test (map f xs)
list_all-map f test [] = refl
list_all-map f test (x ∷ xs) = ap (λ b. test (f x) && b) (list_all-map f test xs)
