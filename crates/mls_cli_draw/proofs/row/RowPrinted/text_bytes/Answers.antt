use Rattle.mls_cli_draw.proofs.Drawn.{one_character}
use Rattle.mls_cli_draw.proofs.row.RowPrinted.text_bytes.Goals as goal

pub loop-character-preserved : goal.loop-character-preserved
loop-character-preserved c = one_character _ _ _ _ _ c.loop-character-test.true c.character-item.is c.loop-character.invariant c.in_ok-push.ensures.bytes
