-- The lines of the checks, and what the first that fails leaves of them.
use Rattle.std.specs.Prelude.{ℕ, take, Result, Ok, Err}
use Rattle.mls_wire.specs.Checks.{Passed}
use Rattle.mls_cli_text.specs.Page.{Page, refused}
use Rattle.mls_cli_text.specs.Text.{Entry}
use Rattle.mls_suite.specs.Crypto.{Crypto}
use Rattle.mls_cli_check.specs.Check.{all_passed, page_behind}
use Rattle.mls_cli_check.specs.RuleLines.{rule_entries, lines_before}

-- the page that the first failing check decides
abbrev pub report_by : Crypto → Result Passed ℕ → Page Entry
report_by c (Ok p) = page_behind (rule_entries c) all_passed
report_by c (Err n) = page_behind (take (lines_before n) (rule_entries c)) (refused n)
