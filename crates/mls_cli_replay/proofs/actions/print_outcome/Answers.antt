use Rattle.std.proofs.Common.{◌≡◌, ◌∙◌, false, sym, subst}
use Rattle.std.proofs.KnownBytes.{Appends-trans}
use Rattle.std.specs.List.{flat_map}
use Rattle.std.specs.Io.KnownBytes.{Appends}
use Rattle.mls_cli_text.specs.InputOutput.{AppendsPart}
use Rattle.mls_cli_text.proofs.Pieces.{nothing_yet, part_behind, part_of_front}
use Rattle.mls_cli_replay.specs.Replay.{entry_text, expected_entries, is_met, lent_text, replied, unmet_entries}
use Rattle.mls_cli_replay.proofs.Playing.{on_err, said_nonempty, said_unmet}
use Rattle.mls_cli_replay.proofs.actions.print_outcome.Goals as goal

pub returns-in_err-met-clause-part : goal.returns-in_err-met-clause-part
returns-in_err-met-clause-part g c =
    nothing_yet c.from_residual.result _ _ (said_nonempty c.args.action c.args.outcome (lent_text c.args.expect))

pub returns-in_err-print-clause-part : goal.returns-in_err-print-clause-part
returns-in_err-print-clause-part g c =
    on_err c.from_residual-in_err-print.result
    (part_of_front (g.O.Output.contents c.args.out.now) (g.O.Output.contents c.print.new.out) (entry_text (replied c.args.action c.args.outcome))
    (flat_map entry_text (unmet_entries c.args.action c.args.outcome (lent_text c.args.expect))) c.in_err-print.ensures.part)

pub returns-in_err-print_expected-clause-part : goal.returns-in_err-print_expected-clause-part
returns-in_err-print_expected-clause-part g c =
    let other : is_met c.args.outcome (lent_text c.args.expect) ≡ false = sym c.in_ok-met.ensures ∙ c.if-met.false in
    let both = part_behind (g.O.Output.contents c.args.out.now) (g.O.Output.contents c.print.new.out) (g.O.Output.contents c.print_expected.new.out) (entry_text (replied c.args.action c.args.outcome))
    (flat_map entry_text (expected_entries c.args.action (lent_text c.args.expect))) c.in_ok-print.ensures.whole c.in_err-print_expected.ensures.part in
    on_err c.from_residual-in_err-print_expected.result
    (subst (AppendsPart (g.O.Output.contents c.args.out.now) (g.O.Output.contents c.print_expected.new.out)) (sym (said_unmet c.args.action c.args.outcome (lent_text c.args.expect) other)) both)

pub returns-clause-whole : goal.returns-clause-whole
returns-clause-whole g c =
    let other : is_met c.args.outcome (lent_text c.args.expect) ≡ false = sym c.in_ok-met.ensures ∙ c.if-met.false in
    let both = Appends-trans (g.O.Output.contents c.args.out.now) (g.O.Output.contents c.print.new.out) (g.O.Output.contents c.print_expected.new.out) (entry_text (replied c.args.action c.args.outcome))
    (flat_map entry_text (expected_entries c.args.action (lent_text c.args.expect))) c.in_ok-print.ensures.whole c.in_ok-print_expected.ensures.whole in
    subst (Appends (g.O.Output.contents c.args.out.now) (g.O.Output.contents c.print_expected.new.out)) (sym (said_unmet c.args.action c.args.outcome (lent_text c.args.expect) other)) both
