use Rattle.std.proofs.Common.{◌≡◌, map, take}
use Rattle.mls_cli_text.specs.Text.{entry_of, prefix_text}
use Rattle.mls_cli_show.specs.Extensions.{extension_entry}
use Rattle.mls_cli_show.proofs.extensions.extension_lines.Given as goal

abbrev pub invariant-loop-extension : goal.invariant-loop-extension
invariant-loop-extension l = map entry_of l.lines.items ≡ map (extension_entry (prefix_text l.prefix)) (take l.extension-index l.extensions)
