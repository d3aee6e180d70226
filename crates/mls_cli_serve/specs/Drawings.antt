-- The options of drawings, and what they say of how a tree is drawn.
use Rattle.std.specs.Prelude.{ℕ, Bool, true, false, codes, Option, Some, None}
use Rattle.clap.specs.Words.{App, with_rule}
use Rattle.mls_cli_check.specs.declared.drawing.Drawing.{Drawing}
use Rattle.mls_cli_check.specs.declared.drawing.Drawing.TheVariants as drawing
use Rattle.mls_cli_serve.specs.Options.{flag_rule, number_rule}

-- an optional --width WIDTH, a number, and a flag --svg
abbrev pub with_drawing_rules : App → App
with_drawing_rules app =
    with_rule (with_rule app (number_rule (codes "WIDTH") (codes "width")))
    (flag_rule (codes "svg"))

-- as rows that are cut to so many columns, or as an SVG file, which has no columns
abbrev pub drawing_by : Option ℕ → Bool → Option Drawing
drawing_by columns false = Some (drawing.Text columns)
drawing_by None true = Some drawing.Svg
drawing_by (Some n) true = None

-- neither option is given
abbrev pub is_plain : Drawing → Bool
is_plain (drawing.Text None) = true
is_plain (drawing.Text (Some n)) = false
is_plain drawing.Svg = false
