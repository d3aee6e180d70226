use Rattle.std.proofs.Common.{◌≡◌, true, is_some, take}
use Rattle.std.specs.List.{All}
use Rattle.mls_tree_cells.proofs.rows.Row.is_warm.Given as goal

abbrev pub invariant-loop-hash : goal.invariant-loop-hash
invariant-loop-hash l = All (λ h. is_some h ≡ true) (take l.hash-index l.hash-items)
