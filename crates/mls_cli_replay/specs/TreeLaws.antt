-- No text of a tree is empty.
use Rattle.std.proofs.Common.{codes, arith, length-append}
use Rattle.hex.specs.Hex.{encode_lower}
use Rattle.mls_cli_text.specs.TextLaws.{NoneIsEmpty}
use Rattle.mls_cli_replay.specs.MemberTree.{bytes_of}
use Rattle.mls_cli_replay.specs.Message.{digits_text}
use Rattle.mls_cli_replay.specs.declared.member_tree.TreeDigits.{TreeDigits}

pub tree_nonempty : NoneIsEmpty (λ (d : TreeDigits). digits_text (bytes_of d))
tree_nonempty d = omega (arith, length-append (encode_lower (bytes_of d)) (codes "\n"))
