use Rattle.std.proofs.Common.{sym, subst}
use Rattle.std.proofs.KnownBytes.{Appends-trans}
use Rattle.std.specs.Io.KnownBytes.{Appends}
use Rattle.std.specs.List.{flat_map}
use Rattle.mls_cli_text.specs.InputOutput.{AppendsPart}
use Rattle.mls_cli_text.proofs.Pieces.{nothing_yet, part_behind, part_of_front}
use Rattle.mls_cli_replay.specs.Replay.{entry_text, final_entries, members_text, texts_of}
use Rattle.mls_cli_replay.proofs.Ending.{closing_is, lines_say, silent}
use Rattle.mls_cli_replay.proofs.Playing.{on_err}
use Rattle.mls_cli_replay.proofs.ends.print_end.Goals as goal

pub returns-in_err-found-clause-part : goal.returns-in_err-found-clause-part
returns-in_err-found-clause-part g c = nothing_yet c.from_residual.result _ _ c.in_err-found.ensures.some

pub returns-in_err-print_members-clause-part : goal.returns-in_err-print_members-clause-part
returns-in_err-print_members-clause-part g c =
    on_err c.from_residual-in_err-print_members.result
    (subst (AppendsPart (g.O.Output.contents c.args.out.now) (g.O.Output.contents c.print_members.new.out)) (sym (closing_is c.args.world.now.seats (texts_of c.args.texts)))
    (part_of_front _ _ (members_text c.args.world.now.seats) (flat_map entry_text (final_entries c.args.world.now.seats (texts_of c.args.texts))) c.in_err-print_members.ensures.part))

pub returns-in_err-print_lines-clause-part : goal.returns-in_err-print_lines-clause-part
returns-in_err-print_lines-clause-part g c =
    let seats = c.args.world.now.seats in
    let said = final_entries seats (texts_of c.args.texts) in
    let text = lines_say c.in_ok-found.found.items said c.in_ok-found.ensures.lines in
    on_err c.from_residual-in_err-print_lines.result
    (subst (AppendsPart (g.O.Output.contents c.args.out.now) (g.O.Output.contents c.print_lines.new.out)) (sym (closing_is seats (texts_of c.args.texts)))
    (part_behind _ (g.O.Output.contents c.print_members.new.out) _ (members_text seats) (flat_map entry_text said) c.in_ok-print_members.ensures.whole
    (rw (c.as_slice-lines.ensures.value, text) at c.in_err-print_lines.ensures.part)))

pub returns-clause-met : goal.returns-clause-met
returns-clause-met g c =
    silent c.in_ok-found.found.items (final_entries c.args.world.now.seats (texts_of c.args.texts)) c.is_empty.result c.in_ok-found.ensures.lines
    (rw c.as_slice-lines.ensures.value at c.is_empty.ensures)

pub returns-clause-whole : goal.returns-clause-whole
returns-clause-whole g c =
    let seats = c.args.world.now.seats in
    let said = final_entries seats (texts_of c.args.texts) in
    let text = lines_say c.in_ok-found.found.items said c.in_ok-found.ensures.lines in
    subst (Appends (g.O.Output.contents c.args.out.now) (g.O.Output.contents c.print_lines.new.out)) (sym (closing_is seats (texts_of c.args.texts)))
    (Appends-trans _ (g.O.Output.contents c.print_members.new.out) _ (members_text seats) (flat_map entry_text said) c.in_ok-print_members.ensures.whole
    (rw (c.as_slice-lines.ensures.value, text) at c.in_ok-print_lines.ensures.whole))
