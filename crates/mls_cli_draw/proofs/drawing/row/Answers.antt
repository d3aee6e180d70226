use Rattle.mls_cli_draw.proofs.Drawn.{row_is}
use Rattle.mls_cli_draw.proofs.drawing.row.Goals as goal

pub returns : goal.returns
returns c = λ h t is. row_is h t _ _ _ _ _ _ _ _ _ _ _ is c.new-characters.ensures.items (c.in_ok-push_stem.ensures h t is.perfect is.leaves_are) c.in_ok-push_node.ensures c.is_on-on_path.ensures c.node_in-found.ensures c.in_ok-cut_to.ensures
