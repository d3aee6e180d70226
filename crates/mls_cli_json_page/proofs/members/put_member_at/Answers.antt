use Rattle.std.proofs.Common.{◌≡◌, ◌∙◌, ◌++◌, None, ap, map, option_map, refl, slice_get, sym, append-nil}
use Rattle.std.proofs.lemmas.Option.{slice_get-map, slice_get_past}
use Rattle.mls_cli_text.specs.Text.{entry_of}
use Rattle.mls_cli_json_page.proofs.Writing.{none_at}
use Rattle.mls_cli_json_page.proofs.members.put_member_at.Goals as goal

pub returns-in-None : goal.returns-in-None
returns-in-None c =
    let none : slice_get c.args.lines.now c.args.number ≡ None = slice_get_past c.args.lines.now c.args.number c.in-None.ensures.lookup.3 in
    let entry : slice_get (map entry_of c.args.lines.now) c.args.number ≡ None = slice_get-map entry_of c.args.lines.now c.args.number ∙ ap (option_map entry_of) none in
    (sym (ap (λ ts. c.args.writer.now.tokens ++ ts) (none_at (map entry_of c.args.lines.now) c.args.number entry) ∙ append-nil c.args.writer.now.tokens), refl)
