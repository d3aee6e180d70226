use Rattle.std.proofs.Common.{◌∙◌, ◌++◌, List, ℕ, ap, codes}
use Rattle.mls_cli_draw.specs.Picture.{cut}
use Rattle.mls_cli_draw.specs.Svg.{marked}
use Rattle.mls_cli_draw.proofs.Texts.{behind}
use Rattle.mls_cli_draw.proofs.shapes.push_marks.Goals as goal

pub returns : goal.returns
unfolding marked
returns c =
    let numbers = c.args.numbers.items in
    let end = codes "</text>" in
    let between = codes "</title><text class=\"unmerged\" y=\"33\">unmerged</text><text class=\"unmerged\" y=\"46\">" in
    let q = c.push_ascii-3.result in
    let new = c.push_ascii-3.new.characters.items in
    let mid_1 = c.push_ascii.new.characters.items in
    let mid_2 = c.extend_from_slice.new.self.items in
    let mid_3 = c.push_ascii-2.new.characters.items in
    let mid_4 = c.extend_from_slice-2.new.self.items in
    behind q c.args.characters.now.items mid_1 new (codes "<title>unmerged") (numbers ++ (between ++ (cut 13 numbers ++ end))) c.in_ok-push_ascii.ensures
    (behind q mid_1 mid_2 new numbers (between ++ (cut 13 numbers ++ end)) (c.in_ok-extend_from_slice.ensures.items ∙ ap (λ (cs : List ℕ). c.push_ascii.new.characters.items ++ cs) c.as_slice.ensures.value)
    (behind q mid_2 mid_3 new between (cut 13 numbers ++ end) c.in_ok-push_ascii-2.ensures
    (behind q mid_3 mid_4 new (cut 13 numbers) end (c.in_ok-extend_from_slice-2.ensures.items ∙ ap (λ (cs : List ℕ). c.push_ascii-2.new.characters.items ++ cs) (c.as_slice-2.ensures.value ∙ c.in_ok-cut.ensures))
    c.push_ascii-3.ensures)))
