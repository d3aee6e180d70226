use Rattle.std.proofs.Common.{◌∙◌, ap, is_some}
use Rattle.serde_json.specs.View.{items_view}
use Rattle.mls_cli_json.specs.Json.{◌>>=◌}
use Rattle.mls_cli_vectors.specs.VectorsFile.{numbers_of}
use Rattle.mls_cli_json_place.proofs.Arrays.{numbers_told}
use Rattle.mls_cli_json_place.proofs.shapes.has_numbers.Goals as goal

pub returns-in-Some : goal.returns-in-Some
returns-in-Some c = c.are_right.ensures ∙ numbers_told (items_view c.in-Some.values.now) ∙ ap (λ o. is_some (o >>= numbers_of)) c.in-Some.ensures
