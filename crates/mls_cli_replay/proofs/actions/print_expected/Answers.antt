use Rattle.std.proofs.Common.{List, ℕ, append-nil, subst, sym}
use Rattle.mls_cli_text.specs.InputOutput.{WritesPart}
use Rattle.mls_cli_replay.specs.Replay.{entry_text, expected}
use Rattle.mls_cli_replay.proofs.actions.print_expected.Goals as goal

pub returns-in-Some-clause-part : goal.returns-in-Some-clause-part
returns-in-Some-clause-part g c =
    rw c.in-Some.is
    (subst (λ (t : List ℕ). WritesPart g.O.Output.contents c.args.out.now c.print.new.out t c.print.result)
    (sym (append-nil (entry_text (expected c.args.action c.in-Some.text.now)))) c.print.ensures.part)
