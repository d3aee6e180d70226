use Rattle.std.proofs.Common.{◌∙◌, ◌≡◌, true, false, rules}
use Rattle.mls_cli_text.specs.HexFile.{is_blank}
use Rattle.mls_cli_text.proofs.Trims.{blank_end, other_end}
use Rattle.mls_cli_text.proofs.hex_file.before_blanks.Goals as goal

pub returns-then-not-is_blank_byte : goal.returns-then-not-is_blank_byte
returns-then-not-is_blank_byte c =
    let other : is_blank c.in-Some.last.now ≡ false = search rules in
    other_end _ _ c.in-Some.last.now c.in-Some.ensures.cases.0 other ∙ c.loop-last.invariant

pub loop-last-preserved : goal.loop-last-preserved
loop-last-preserved c =
    let is_blank_byte : is_blank c.in-Some.last.now ≡ true = search rules in
    blank_end c.loop-last.rest.now c.in-Some.before.now c.in-Some.last.now c.in-Some.ensures.cases.0 is_blank_byte ∙ c.loop-last.invariant
