-- Arrays, value by value.
use Rattle.std.specs.Prelude.{ℕ, ◌+◌, ◌&&◌, Bool, true, Option, Some, None}
use Rattle.serde_json.specs.Data.{Data, Items, no_items, item}
use Rattle.mls_cli_json_place.specs.declared.place.Wrong.{Wrong}

-- whether each value of an array passes a test
unfoldable pub all_items : (Data → Bool) → Items → Bool
all_items right no_items = true
all_items right (item d ds) = right d && all_items right ds

-- what is wrong with a value of this number, or else what is found behind it
abbrev pub wrong_or : ℕ → Option Wrong → Option (ℕ × Wrong) → Option (ℕ × Wrong)
wrong_or i None behind = behind
wrong_or i (Some wrong) behind = Some (i, wrong)

-- the first value of an array with which something is wrong, by its number, where the first of all has this one
unfoldable pub first_wrong : (Data → Option Wrong) → ℕ → Items → Option (ℕ × Wrong)
first_wrong wrong i no_items = None
first_wrong wrong i (item d ds) = wrong_or i (wrong d) (first_wrong wrong (i + 1) ds)
