-- The words of the command line, as the program reads them.
use Rattle.std.specs.Prelude.{◌≡◌, ℕ, List, [], ◌∷◌, codes, map}

-- the words with the program's name as the first
abbrev pub name_program : List (List ℕ) → List (List ℕ)
name_program [] = []
name_program (first ∷ rest) = codes "mls" ∷ rest

-- the words that code has, with the program's name as the first
abbrev pub NamesProgram : {W : Type 0} → (W → List ℕ) → List W → List W → Type 0
NamesProgram text words named = map text named ≡ name_program (map text words)
