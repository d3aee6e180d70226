use Rattle.mls_cli_serve.specs.Arguments.{with_draw_rules}
use Rattle.mls_cli_serve.proofs.Adding.{app_is, local_is, then_app}
use Rattle.mls_cli_serve.proofs.check_options.check_command.Goals as goal

pub returns-clause-app : goal.returns-clause-app
returns-clause-app c =
    let one = app_is c.in_ok-with_suite.ensures c.suite_arg.ensures.local c.in_ok-command.ensures.app c.suite_arg.ensures.rule in
    let two = app_is c.in_ok-with_group.ensures c.group_arg.ensures.local one c.group_arg.ensures.rule in
    let three = app_is c.in_ok-with_signatures.ensures c.flag_arg-signatures.ensures.local two c.flag_arg-signatures.ensures.rule in
    let four = app_is c.in_ok-with_info.ensures c.flag_arg-info.ensures.local three c.flag_arg-info.ensures.rule in
    let five = app_is c.in_ok-with_raw.ensures c.raw_arg.ensures.local four c.raw_arg.ensures.rule in
    let six = app_is c.in_ok-with_json.ensures c.json_arg.ensures.local five c.json_arg.ensures.rule in
    let seven = app_is c.in_ok-with_where.ensures c.where_arg.ensures.local six c.where_arg.ensures.rule in
    then_app c.with_draw.result with_draw_rules c.with_draw.ensures.app seven

pub returns-clause-local : goal.returns-clause-local
returns-clause-local c =
    let one = local_is c.in_ok-with_suite.ensures c.suite_arg.ensures.local c.in_ok-command.ensures.local in
    let two = local_is c.in_ok-with_group.ensures c.group_arg.ensures.local one in
    let three = local_is c.in_ok-with_signatures.ensures c.flag_arg-signatures.ensures.local two in
    let four = local_is c.in_ok-with_info.ensures c.flag_arg-info.ensures.local three in
    let five = local_is c.in_ok-with_raw.ensures c.raw_arg.ensures.local four in
    let six = local_is c.in_ok-with_json.ensures c.json_arg.ensures.local five in
    c.with_draw.ensures.local (local_is c.in_ok-with_where.ensures c.where_arg.ensures.local six)
