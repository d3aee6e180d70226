use Rattle.mls_cli_draw.specs.Svg.{circle}
use Rattle.mls_cli_draw.proofs.Texts.{behind}
use Rattle.mls_cli_draw.proofs.shapes.push_circle.Goals as goal

pub returns : goal.returns
unfolding circle
returns c = behind _ _ _ _ _ _ c.in_ok-push_numbered.ensures c.push_ascii.ensures
