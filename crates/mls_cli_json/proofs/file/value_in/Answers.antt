use Rattle.mls_cli_json.proofs.Texts.{nothing}
use Rattle.mls_cli_json.proofs.file.value_in.Goals as goal

pub returns-in-Err-clause-value : goal.returns-in-Err-clause-value
returns-in-Err-clause-value c = nothing c.args.file.now (λ is. absurd (c.in-Err.ensures.cases.0 is))
