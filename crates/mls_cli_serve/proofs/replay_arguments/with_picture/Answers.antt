use Rattle.std.proofs.Common.{refl}
use Rattle.mls_cli_serve.specs.Drawings.{with_drawing_rules}
use Rattle.mls_cli_serve.proofs.Adding.{app_is, local_is, then_app}
use Rattle.mls_cli_serve.proofs.replay_arguments.with_picture.Goals as goal

pub returns-clause-app : goal.returns-clause-app
returns-clause-app c =
    let one = app_is c.in_ok-with_draw.ensures c.number_arg-draw.ensures.local refl c.number_arg-draw.ensures.rule in
    then_app c.with_drawing_options.result with_drawing_rules c.with_drawing_options.ensures.app one

pub returns-clause-local : goal.returns-clause-local
returns-clause-local c = λ none. c.with_drawing_options.ensures.local (local_is c.in_ok-with_draw.ensures c.number_arg-draw.ensures.local none)
