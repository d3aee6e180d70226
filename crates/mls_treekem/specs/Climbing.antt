-- A climb as code has it.
use Rattle.std.specs.Prelude.{ℕ, List, [], ◌∷◌, ◌++◌, Some}
use Rattle.mls_treekem_model.specs.Make.{Climb}

-- a climb with the leaf's key, which code leaves out
abbrev pub with_own : List ℕ → Climb → Climb
with_own own m = record { secret = m.secret; keys = m.keys ++ (Some own ∷ []) }
