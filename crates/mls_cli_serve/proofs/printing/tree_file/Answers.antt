use Rattle.std.proofs.Common.{rules, arith}
use Rattle.mls_cli_check.specs.Check.{check_page}
use Rattle.mls_cli_serve.specs.Pages.{checking}
use Rattle.mls_cli_serve.proofs.Reading.{long_page, short_page}
use Rattle.mls_cli_serve.proofs.printing.tree_file.Goals as goal

pub returns-then-text-limit : goal.returns-then-text-limit
returns-then-text-limit c =
    rw (long_page c.args.form c.args.text.now (check_page (checking c.args.suite c.args.signatures) c.args.form c.args.text.now c.args.group.now) (omega (arith, c.if-text-limit.true, c.file_limit-limit.ensures))) (search rules)

pub returns : goal.returns
returns c =
    rw (short_page c.args.form c.args.text.now (check_page (checking c.args.suite c.args.signatures) c.args.form c.args.text.now c.args.group.now) (omega (arith, c.if-text-limit.false, c.file_limit-limit.ensures))) c.check_file.ensures
