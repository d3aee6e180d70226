use Rattle.std.proofs.Common.{map, take, ap, sym, ◌∙◌}
use Rattle.std.proofs.lemmas.List.{take-map}
use Rattle.mls_cli_text.specs.Text.{entry_of}
use Rattle.mls_cli_check.proofs.report.rule_lines.Goals as goal

pub returns : goal.returns
returns g c =
    ap (map entry_of) c.truncate.ensures.items
    ∙ (sym (take-map entry_of c.args.passed c.in_ok-lines.lines.items) ∙ ap (take c.args.passed) c.in_ok-lines.ensures)
