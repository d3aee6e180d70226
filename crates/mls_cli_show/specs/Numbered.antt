-- What stands in the full text alone, and the lines of lists whose items are numbered.
use Rattle.std.specs.Prelude.{ℕ, List, []}
use Rattle.std.specs.List.{enumerate_from, flat_map}
use Rattle.mls_cli_text.specs.Text.{Entry}
use Rattle.mls_cli_show.specs.declared.numbered.Detail.{Detail}
use Rattle.mls_cli_show.specs.declared.numbered.Detail.TheVariants.{Brief, Full}

-- lines that only the full text has
abbrev pub in_full : Detail → List Entry → List Entry
in_full Brief lines = []
in_full Full lines = lines

-- the lines of each item in turn, by its number from 0 on
abbrev pub numbered : {X : Type 0} → (ℕ → X → List Entry) → List X → List Entry
numbered lines xs = flat_map (λ p. lines p.0 p.1) (enumerate_from 0 xs)
