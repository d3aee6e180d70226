use Rattle.std.proofs.lemmas.Result.{err_from_is_err_and}
use Rattle.mls_join.proofs.Welcomes.{fault_read, lent_welcome, lent_other}
use Rattle.mls_join.proofs.opening.welcome_view.Goals as goal

pub returns-in_err-view : goal.returns-in_err-view
returns-in_err-view c =
    let p = err_from_is_err_and c.from_residual.result c.from_residual.ensures.1 in
    rw (p.1, p.2) (fault_read c.args.bytes.now _ c.in_err-view.ensures.read)

pub returns-in-Welcome : goal.returns-in-Welcome
returns-in-Welcome c = lent_welcome c.args.bytes.now c.in-Welcome.view c.in_ok-view.field-0 c.in-Welcome.is c.in_ok-view.ensures.read

pub returns-in_default : goal.returns-in_default
returns-in_default c = lent_other c.args.bytes.now c.in_ok-view.field-0 c.in_default.not-Welcome c.in_ok-view.ensures.read
