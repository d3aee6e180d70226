use Rattle.std.proofs.Common.{◌≡◌, true, false, is_some, rules}
use Rattle.mls_cli_text.specs.Form.{bytes_of_file}
use Rattle.mls_cli_check.proofs.Texts.{texts_no_file, handed_on}
use Rattle.mls_cli_check.proofs.require_texts.Goals as goal

pub returns-then-not-has_bytes : goal.returns-then-not-has_bytes
returns-then-not-has_bytes c =
    let other : is_some (bytes_of_file c.args.form c.args.text.now) ≡ false = search rules in
    texts_no_file c.args.form c.args.text.now c.args.group.now other

pub returns : goal.returns
returns c =
    let bytes : is_some (bytes_of_file c.args.form c.args.text.now) ≡ true = search rules in
    handed_on c.args.form c.args.text.now c.args.group.now c.require_group.result bytes c.require_group.ensures
