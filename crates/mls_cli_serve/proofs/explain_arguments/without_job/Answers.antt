use Rattle.mls_cli_serve.proofs.Lacking.{lacks}
use Rattle.std.proofs.Common.{sym}
use Rattle.mls_cli_serve.proofs.explain_arguments.without_job.Goals as goal

pub returns-in-None : goal.returns-in-None
returns-in-None c = lacks _ _ c.refuse_words.result (sym c.in-None.ensures) c.refuse_words.ensures
