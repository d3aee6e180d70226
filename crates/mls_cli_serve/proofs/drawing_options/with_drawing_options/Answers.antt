use Rattle.std.proofs.Common.{refl}
use Rattle.mls_cli_serve.proofs.Adding.{app_is, last_app, last_local, local_is}
use Rattle.mls_cli_serve.proofs.drawing_options.with_drawing_options.Goals as goal

pub returns-clause-app : goal.returns-clause-app
returns-clause-app c =
    let one = app_is c.in_ok-with_width.ensures c.number_arg-width.ensures.local refl c.number_arg-width.ensures.rule in
    last_app c.arg-2.result c.in_ok-with_width.with_width c.flag_arg-svg.result c.arg-2.ensures c.flag_arg-svg.ensures.local one c.flag_arg-svg.ensures.rule

pub returns-clause-local : goal.returns-clause-local
returns-clause-local c = λ none.
    let one = local_is c.in_ok-with_width.ensures c.number_arg-width.ensures.local none in
    last_local c.arg-2.result c.in_ok-with_width.with_width c.flag_arg-svg.result c.arg-2.ensures c.flag_arg-svg.ensures.local one
