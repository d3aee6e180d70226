use Rattle.std.proofs.Common.{◌≡◌, length}
use Rattle.mls_cli_text.specs.HexFile.{before_blanks}
use Rattle.mls_cli_text.proofs.hex_file.before_blanks.Given as goal

abbrev pub invariant-loop-last : goal.invariant-loop-last
invariant-loop-last l = before_blanks l.rest ≡ before_blanks l.text

abbrev pub decreases-loop-last : goal.decreases-loop-last
decreases-loop-last l = length l.rest
