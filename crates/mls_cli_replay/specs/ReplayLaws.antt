-- No line of a replay is empty.
use Rattle.std.proofs.Common.{codes, arith, length-append}
use Rattle.mls_cli_text.specs.TextLaws.{NoneIsEmpty}
use Rattle.mls_cli_replay.specs.Replay.{entry_of, entry_text, entry_words}
use Rattle.mls_cli_replay.specs.declared.line.ReplayLine.{ReplayLine}

pub replay_line_nonempty : NoneIsEmpty (λ (line : ReplayLine). entry_text (entry_of line))
replay_line_nonempty line = omega (arith, length-append (entry_words (entry_of line)) (codes "\n"))
