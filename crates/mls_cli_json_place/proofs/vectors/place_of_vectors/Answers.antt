use Rattle.std.proofs.Common.{◌∙◌, ap, sym}
use Rattle.mls_cli_json_place.specs.Faults.{read_view}
use Rattle.mls_cli_json_place.proofs.FileLaws.{no_vectors}
use Rattle.mls_cli_json_place.proofs.vectors.place_of_vectors.Goals as goal

pub returns-in-Err-clause-refusal : goal.returns-in-Err-clause-refusal
returns-in-Err-clause-refusal c =
    no_vectors c.args.text.now c.in-Err.stop.line c.in-Err.stop.column (ap (λ r. read_view r) (sym c.in-Err.is) ∙ c.in_ok-value.ensures)
