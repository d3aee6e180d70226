use Rattle.std.proofs.Common.{◌≡◌, take}
use Rattle.mls_cli_text.specs.Text.{entries_of}
use Rattle.mls_cli_show.specs.Numbered.{numbered}
use Rattle.mls_cli_show.proofs.numbered.list_lines.Given as goal

abbrev pub invariant-loop-number : goal.invariant-loop-number
invariant-loop-number g l = entries_of l.lines ≡ numbered g.T.Listed.lines (take l.number l.items)
