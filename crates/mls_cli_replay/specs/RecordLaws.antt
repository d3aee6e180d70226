-- No text of a recording is empty.
use Rattle.std.proofs.Common.{codes, arith, length-append}
use Rattle.mls_cli_text.specs.TextLaws.{NoneIsEmpty}
use Rattle.mls_cli_replay.specs.RecordedReplies.{file_text}
use Rattle.mls_cli_replay.specs.declared.record.FileText.{FileText}

pub file_text_nonempty : NoneIsEmpty (λ (f : FileText). file_text f.text.items)
file_text_nonempty f = omega (arith, length-append f.text.items (codes "\n"))
