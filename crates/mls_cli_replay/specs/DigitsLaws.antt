-- No text of a message is empty.
use Rattle.std.proofs.Common.{codes, arith, length-append}
use Rattle.hex.specs.Hex.{encode_lower}
use Rattle.mls_cli_text.specs.TextLaws.{NoneIsEmpty}
use Rattle.mls_cli_replay.specs.Message.{digits_text}
use Rattle.mls_cli_replay.specs.declared.message.Digits.{Digits}

pub digits_nonempty : NoneIsEmpty (λ (d : Digits). digits_text d.message.now)
digits_nonempty d = omega (arith, length-append (encode_lower d.message.now) (codes "\n"))
