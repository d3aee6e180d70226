use Rattle.std.proofs.Common.{◌≡◌, ◌++◌, map}
use Rattle.std.specs.List.{flat_map, range_with_len}
use Rattle.mls_cli_text.specs.Text.{entry_of}
use Rattle.mls_cli_json_page.specs.JsonPage.{member_at}
use Rattle.mls_cli_json_page.proofs.members.put_members.Given as goal

abbrev pub invariant-loop-number : goal.invariant-loop-number
invariant-loop-number l = (l.writer.tokens ≡ l.initial.writer.tokens ++ flat_map (member_at (map entry_of l.lines)) (range_with_len 0 l.number)) × (l.writer.before ≡ l.initial.writer.before)
