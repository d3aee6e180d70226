use Rattle.std.proofs.Common.{Ok}
use Rattle.mls_cli_serve.proofs.Reading.{prints_read}
use Rattle.mls_cli_serve.proofs.serving.print_request.Goals as goal

pub returns-in-Ok-clause-prints : goal.returns-in-Ok-clause-prints
returns-in-Ok-clause-prints g c =
    prints_read _ c.args.request.now.job _ _ _ _ (Ok c.in-Ok.status) c.as_slice.ensures.value c.in_ok-text.ensures.text c.in-Ok.ensures.prints

pub returns-in-Ok-clause-reports : goal.returns-in-Ok-clause-reports
returns-in-Ok-clause-reports g c =
    (c.in_ok-text.text.items, c.in_ok-text.ensures.text, rw c.as_slice.ensures.value at c.in-Ok.ensures.reports)
