use Rattle.std.proofs.Common.{[], ◌∷◌, drop, get_or, map}
use Rattle.mls_cli_draw.specs.Picture.{characters_of}
use Rattle.mls_cli_draw.specs.SvgStyle.{shape_style}
use Rattle.mls_cli_draw.proofs.Texts.{behind}
use Rattle.mls_cli_draw.proofs.svg_style.push_shape_style.Goals as goal

pub returns : goal.returns
returns c =
    let q = c.push_text_row-5.result in
    let rows_0 = map characters_of c.args.rows.now.items in
    let rows_1 = map characters_of c.push_text_row.new.rows.items in
    let rows_2 = map characters_of c.push_text_row-2.new.rows.items in
    let rows_3 = map characters_of c.push_text_row-3.new.rows.items in
    let rows_4 = map characters_of c.push_text_row-4.new.rows.items in
    let rows_5 = map characters_of c.push_text_row-5.new.rows.items in
    behind q rows_0 rows_1 rows_5 (get_or shape_style 0 [] ∷ []) (drop 1 shape_style)
    c.in_ok-push_text_row.ensures
    (behind q rows_1 rows_2 rows_5 (get_or shape_style 1 [] ∷ []) (drop 2 shape_style)
    c.in_ok-push_text_row-2.ensures
    (behind q rows_2 rows_3 rows_5 (get_or shape_style 2 [] ∷ []) (drop 3 shape_style)
    c.in_ok-push_text_row-3.ensures
    (behind q rows_3 rows_4 rows_5 (get_or shape_style 3 [] ∷ []) (drop 4 shape_style)
    c.in_ok-push_text_row-4.ensures
    c.push_text_row-5.ensures)))
