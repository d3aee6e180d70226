use Rattle.mls_cli_serve.proofs.Numbers.{read, unread}
use Rattle.mls_cli_serve.proofs.options.number_in.Goals as goal

pub returns-in-Ok : goal.returns-in-Ok
returns-in-Ok c = read c.args.text.now c.in-Ok.number c.in-Ok.ensures.value.0.0 c.in-Ok.ensures.value.0.1

pub returns-in-Err : goal.returns-in-Err
returns-in-Err c = unread c.args.text.now c.in-Err.ensures.value.0
