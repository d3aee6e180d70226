use Rattle.std.proofs.Common.{◌≡◌, ◌%◌, length, ◌∙◌, arith}
use Rattle.mls_cli_text.proofs.Digits.{even_hex}
use Rattle.mls_cli_text.proofs.hex_file.is_hex.Goals as goal

pub returns-then-text-eq0 : goal.returns-then-text-eq0
returns-then-text-eq0 c =
    let even : length c.args.text.now % 2 ≡ 0 = omega (arith, c.if-text-eq0.true) in
    c.are_digits.ensures ∙ even_hex c.args.text.now even
