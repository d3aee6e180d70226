use Rattle.std.proofs.Common.{◌∙◌, ap, is_some}
use Rattle.serde_json.specs.View.{items_view}
use Rattle.mls_cli_json.specs.Json.{◌>>=◌}
use Rattle.mls_cli_json.specs.Lists.{each_of}
use Rattle.mls_cli_recording.specs.Recording.{extension_in}
use Rattle.mls_cli_json_place.proofs.Arrays.{all_told}
use Rattle.mls_cli_json_place.proofs.shapes.has_extensions.Goals as goal

pub returns-in-Some : goal.returns-in-Some
returns-in-Some c = c.are_right.ensures ∙ all_told extension_in (items_view c.in-Some.values.now) ∙ ap (λ o. is_some (o >>= each_of extension_in)) c.in-Some.ensures
