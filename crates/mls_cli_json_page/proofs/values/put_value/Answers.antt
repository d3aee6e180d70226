use Rattle.std.proofs.Common.{◌∙◌, List, ℕ, ap, sym}
use Rattle.mls_cli_text.specs.Text.{indexes, numbers, shown_by}
use Rattle.mls_cli_text.specs.declared.text.Field.{Field}
use Rattle.mls_cli_json_page.specs.JsonPage.{value}
use Rattle.mls_cli_json_page.proofs.Writing.{same}
use Rattle.mls_cli_json_page.proofs.values.put_value.Goals as goal

pub returns-in-Numbers : goal.returns-in-Numbers
returns-in-Numbers c =
    same c.put_numbers.result c.args.writer.now c.put_numbers.new.writer (value (numbers c.as_slice-in-Numbers.result.now)) (value (shown_by c.args.field.now))
    (ap (λ (ns : List ℕ). value (numbers ns)) c.as_slice-in-Numbers.ensures ∙ ap (λ (f : Field). value (shown_by f)) (sym c.in-Numbers.is)) c.put_numbers.ensures

pub returns-in-Indexes : goal.returns-in-Indexes
returns-in-Indexes c =
    same c.put_indexes.result c.args.writer.now c.put_indexes.new.writer (value (indexes c.as_slice-in-Indexes.result.now)) (value (shown_by c.args.field.now))
    (ap (λ (ns : List ℕ). value (indexes ns)) c.as_slice-in-Indexes.ensures.value ∙ ap (λ (f : Field). value (shown_by f)) (sym c.in-Indexes.is)) c.put_indexes.ensures
