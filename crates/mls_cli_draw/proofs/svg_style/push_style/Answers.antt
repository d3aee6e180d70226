use Rattle.std.proofs.Common.{[], ◌∷◌, ◌++◌, codes, map}
use Rattle.mls_cli_draw.specs.Picture.{characters_of}
use Rattle.mls_cli_draw.specs.SvgStyle.{shape_style, text_style}
use Rattle.mls_cli_draw.proofs.Texts.{behind}
use Rattle.mls_cli_draw.proofs.svg_style.push_style.Goals as goal

pub returns : goal.returns
returns c =
    let q = c.push_text_row-3.result in
    let old = map characters_of c.args.rows.now.items in
    let opened = map characters_of c.push_text_row.new.rows.items in
    let told = map characters_of c.push_text_style.new.rows.items in
    let shaped = map characters_of c.push_shape_style.new.rows.items in
    let closed = map characters_of c.push_text_row-2.new.rows.items in
    let new = map characters_of c.push_text_row-3.new.rows.items in
    let front = codes "<style>" ∷ [] in
    let close = codes "</style>" ∷ [] in
    let ground = codes "<rect x=\"-16\" y=\"-40\" width=\"100%\" height=\"100%\" fill=\"#fff\"/>" ∷ [] in
    behind q old opened new front (text_style ++ (shape_style ++ (close ++ ground))) c.in_ok-push_text_row.ensures
    (behind q opened told new text_style (shape_style ++ (close ++ ground)) c.in_ok-push_text_style.ensures
    (behind q told shaped new shape_style (close ++ ground) c.in_ok-push_shape_style.ensures
    (behind q shaped closed new close ground c.in_ok-push_text_row-2.ensures c.push_text_row-3.ensures)))
