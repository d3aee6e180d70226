use Rattle.std.proofs.Common.{◌≡◌, map, take}
use Rattle.mls_cli_text.specs.Text.{entry_of}
use Rattle.mls_cli_show.specs.Group.{member_entry}
use Rattle.mls_cli_show.proofs.group.member_lines.Given as goal

abbrev pub invariant-loop-secret : goal.invariant-loop-secret
invariant-loop-secret l = map entry_of l.lines.items ≡ map member_entry (take l.secret-index l.secrets)
