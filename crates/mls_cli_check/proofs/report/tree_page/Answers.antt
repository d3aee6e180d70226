use Rattle.std.proofs.Common.{take, ap, ◌∙◌}
use Rattle.mls_cli_check.specs.RuleLines.{rule_entries}
use Rattle.mls_cli_check.proofs.Orders.{all_lines, lines_or_wanting}
use Rattle.mls_cli_check.proofs.report.tree_page.Goals as goal

pub returns-in_ok-append_lines-in-Ok-clause-page : goal.returns-in_ok-append_lines-in-Ok-clause-page
returns-in_ok-append_lines-in-Ok-clause-page g c =
    all_lines g.S.Suite.crypto _ _ _ _ _ _ c.in-Ok.ensures.answer c.in_ok-lines.ensures.same c.in_ok-append_lines-in-Ok.ensures c.in_ok-lines.ensures.lines c.in_ok-more-in-Ok.ensures

pub returns-in_ok-append_lines-in-Err-clause-page : goal.returns-in_ok-append_lines-in-Err-clause-page
returns-in_ok-append_lines-in-Err-clause-page g c =
    lines_or_wanting g.S.Suite.crypto _ _ _ _ _ _ _ _ c.refuse_behind.ensures.memory c.refuse_behind.ensures.page c.in-Err.ensures.answer c.in_ok-lines.ensures.same c.in_ok-append_lines-in-Err.ensures c.in_ok-lines.ensures.lines (c.in_ok-more-in-Err.ensures ∙ ap (λ k. take k (rule_entries g.S.Suite.crypto)) c.lines_before.ensures)
