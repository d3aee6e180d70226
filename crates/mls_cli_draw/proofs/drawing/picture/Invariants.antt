use Rattle.std.proofs.Common.{◌≡◌, map}
use Rattle.std.specs.List.{range_with_len}
use Rattle.mls_tree.specs.Tree.{term}
use Rattle.mls_tree_model.specs.LastPath.{last_path}
use Rattle.mls_cli_draw.specs.Picture.{characters_of, row}
use Rattle.mls_cli_draw.proofs.drawing.picture.Given as goal

abbrev pub invariant-loop-node : goal.invariant-loop-node
invariant-loop-node l = map characters_of l.rows.items ≡ map (row l.columns (last_path (term l.tree)) (term l.tree)) (range_with_len 0 l.node)
