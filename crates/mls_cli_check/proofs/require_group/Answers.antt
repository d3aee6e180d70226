use Rattle.std.proofs.Common.{◌≡◌, true, false, rules, arith}
use Rattle.mls_cli_text.specs.HexFile.{is_hex}
use Rattle.mls_cli_check.proofs.Texts.{group_no_hex, group_too_long, group_is}
use Rattle.mls_cli_check.proofs.require_group.Goals as goal

pub returns-then-not-is_hex : goal.returns-then-not-is_hex
returns-then-not-is_hex c =
    let other : is_hex c.args.text.now ≡ false = search rules in
    group_no_hex c.args.text.now other

pub returns-then-text-gt-INPUT_LIMIT : goal.returns-then-text-gt-INPUT_LIMIT
returns-then-text-gt-INPUT_LIMIT c =
    let hex : is_hex c.args.text.now ≡ true = search rules in
    group_too_long c.args.text.now hex (omega (arith, c.if-text-gt-INPUT_LIMIT.true))

pub returns : goal.returns
returns c =
    let hex : is_hex c.args.text.now ≡ true = search rules in
    let is = group_is c.args.text.now hex (omega (arith, c.if-text-gt-INPUT_LIMIT.false)) in
    rw is.1 (search rules)
