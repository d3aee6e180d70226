use Rattle.std.proofs.Common.{rules, arith}
use Rattle.mls_cli_show.specs.Show.{page_of as show_page}
use Rattle.mls_cli_serve.proofs.Reading.{long_page, short_page}
use Rattle.mls_cli_serve.proofs.printing.show_file.Goals as goal

pub returns-then-text-limit : goal.returns-then-text-limit
returns-then-text-limit c =
    rw (long_page c.args.form c.args.text.now (show_page c.args.detail c.args.form c.args.text.now) (omega (arith, c.if-text-limit.true, c.file_limit-limit.ensures))) (search rules)

pub returns : goal.returns
returns c =
    rw (short_page c.args.form c.args.text.now (show_page c.args.detail c.args.form c.args.text.now) (omega (arith, c.if-text-limit.false, c.file_limit-limit.ensures))) c.show_page.ensures.page
