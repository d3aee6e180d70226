use Rattle.std.proofs.Common.{◌∙◌, ap, sym, List, ℕ, Option, Bor, option_map, string_bytes}
use Rattle.std.proofs.lemmas.Option.{slice_get-map}
use Rattle.mls_cli_replay.specs.Replay.{difference, line_at}
use Rattle.mls_cli_replay.proofs.ends.difference_at.Goals as goal

pub returns : goal.returns
returns g c =
    c.difference_line.ensures
    ∙ ap (λ (o : Option (List ℕ)). difference c.args.number o (option_map (λ (t : Bor (List ℕ)). t.now) c.text_at.result)) (c.as_deref.ensures.value ∙ c.in_ok-words.ensures)
    ∙ ap (difference c.args.number (line_at c.args.world.now.seats c.args.number)) (c.text_at.ensures ∙ sym (slice_get-map string_bytes c.args.texts.now c.args.number))
