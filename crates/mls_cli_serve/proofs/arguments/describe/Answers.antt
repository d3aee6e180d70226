use Rattle.std.proofs.Common.{ap, ◌∙◌, true}
use Rattle.clap.specs.Words.{App}
use Rattle.clap.specs.Simple.{app_of_fields}
use Rattle.mls_cli_serve.proofs.arguments.describe.Goals as goal

pub returns : goal.returns
returns c =
    ap app_of_fields c.override_usage.ensures
    ∙ (ap app_of_fields c.version.ensures
    ∙ (ap (λ (a : App). record a { top = record a.top { has_version = true } }) (ap app_of_fields c.after_help.ensures)
    ∙ ap (λ (a : App). record a { top = record a.top { has_version = true } }) (ap app_of_fields c.about.ensures)))
