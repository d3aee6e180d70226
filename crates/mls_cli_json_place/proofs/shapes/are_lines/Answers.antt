use Rattle.std.proofs.Common.{◌∙◌, ap, is_some}
use Rattle.serde_json.specs.View.{items_view}
use Rattle.mls_cli_json.specs.Json.{◌>>=◌}
use Rattle.mls_cli_recording.specs.Recording.{texts_in}
use Rattle.mls_cli_json_place.proofs.Arrays.{texts_told}
use Rattle.mls_cli_json_place.proofs.shapes.are_lines.Goals as goal

pub returns-in-Some : goal.returns-in-Some
returns-in-Some c =
    c.are_right.ensures ∙ texts_told (items_view c.as_slice.result.now)
    ∙ ap (λ xs. is_some (texts_in (items_view xs))) c.as_slice.ensures.value
    ∙ ap (λ o. is_some (o >>= texts_in)) c.in-Some.ensures
