-- How large a tree may be.
use Rattle.std.specs.Prelude.{ℕ}

-- the most levels below a root, which is this project's choice; MAX_HEIGHT in the code
abbrev pub max_height : ℕ
max_height = 16
