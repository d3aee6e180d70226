use Rattle.std.proofs.Common.{◌∙◌, ap}
use Rattle.mls_cli_serve.specs.ReplayArguments.{with_picture_rules}
use Rattle.mls_cli_serve.proofs.Adding.{app_is, last_app, last_local, local_is}
use Rattle.mls_cli_serve.proofs.replay_arguments.replay_command.Goals as goal

pub returns-clause-app : goal.returns-clause-app
returns-clause-app c =
    let one = app_is c.in_ok-with_suite.ensures c.suite_arg.ensures.local c.in_ok-command.ensures.app c.suite_arg.ensures.rule in
    let two = app_is c.in_ok-with_message.ensures c.number_arg-message.ensures.local one c.number_arg-message.ensures.rule in
    let three = app_is c.in_ok-with_tree.ensures c.number_arg-tree.ensures.local two c.number_arg-tree.ensures.rule in
    let four = app_is c.in_ok-with_quiet.ensures c.flag_arg-quiet.ensures.local three c.flag_arg-quiet.ensures.rule in
    let five = app_is c.in_ok-with_record.ensures c.flag_arg-record.ensures.local four c.flag_arg-record.ensures.rule in
    let six = c.in_ok-with_all.ensures.app ∙ ap with_picture_rules five in
    let seven = app_is c.in_ok-with_progress.ensures c.flag_arg-progress.ensures.local six c.flag_arg-progress.ensures.rule in
    last_app c.arg-7.result c.in_ok-with_progress.with_progress c.where_arg.result c.arg-7.ensures c.where_arg.ensures.local seven c.where_arg.ensures.rule

pub returns-clause-local : goal.returns-clause-local
returns-clause-local c =
    let one = local_is c.in_ok-with_suite.ensures c.suite_arg.ensures.local c.in_ok-command.ensures.local in
    let two = local_is c.in_ok-with_message.ensures c.number_arg-message.ensures.local one in
    let three = local_is c.in_ok-with_tree.ensures c.number_arg-tree.ensures.local two in
    let four = local_is c.in_ok-with_quiet.ensures c.flag_arg-quiet.ensures.local three in
    let five = local_is c.in_ok-with_record.ensures c.flag_arg-record.ensures.local four in
    let seven = local_is c.in_ok-with_progress.ensures c.flag_arg-progress.ensures.local (c.in_ok-with_all.ensures.local five) in
    last_local c.arg-7.result c.in_ok-with_progress.with_progress c.where_arg.result c.arg-7.ensures c.where_arg.ensures.local seven
