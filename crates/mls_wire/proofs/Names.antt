-- A part of the table of names, found in the whole.
use Rattle.std.proofs.Common.{rules, ◌≡◌, ℕ, ◌<◌, ◌≤◌, ◌==◌, if◌then◌else◌, List, [], ◌∷◌, ◌++◌, ap}
use Rattle.mls_wire.specs.Names.{name_in, names_of_bytes, names_of_trees, names_of_members, names_of_joins}

pub found_before : (xs ys : List (ℕ × List ℕ)) (n : ℕ) → name_in ys n ≡ [] → name_in (xs ++ ys) n ≡ name_in xs n
found_before [] ys n none = none
found_before (x ∷ xs) ys n none = ap (λ name. if x.0 == n then x.1 else name) (found_before xs ys n none)

pub past_bytes : (ys : List (ℕ × List ℕ)) (n : ℕ) → 20 ≤ n → name_in (names_of_bytes ++ ys) n ≡ name_in ys n
past_bytes ys n above = search rules

pub past_trees : (ys : List (ℕ × List ℕ)) (n : ℕ) → 40 ≤ n → name_in (names_of_trees ++ ys) n ≡ name_in ys n
past_trees ys n above = search rules

pub no_join : (n : ℕ) → n < 70 → name_in names_of_joins n ≡ []
no_join n below = search rules

pub no_member : (n : ℕ) → n < 40 → name_in (names_of_members ++ names_of_joins) n ≡ []
no_member n below = search rules

pub no_tree : (n : ℕ) → n < 20 → name_in (names_of_trees ++ names_of_members ++ names_of_joins) n ≡ []
no_tree n below = search rules
