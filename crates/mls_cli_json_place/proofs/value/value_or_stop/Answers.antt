use Rattle.std.proofs.Common.{rules, sym}
use Rattle.std.proofs.lemmas.Str.{is_utf8-from_IsUtf8}
use Rattle.mls_cli_json.specs.Json.{data_in}
use Rattle.mls_cli_json_place.proofs.Texts.{nothing}
use Rattle.mls_cli_json_place.proofs.value.value_or_stop.Goals as goal

pub returns-in-Ok : goal.returns-in-Ok
unfolding data_in
returns-in-Ok c = rw (is_utf8-from_IsUtf8 c.args.text.now c.in-Ok.ensures.ok.0) (sym c.in-Ok.ensures.ok.1)

pub returns-else-is_memory : goal.returns-else-is_memory
returns-else-is_memory c = sym (nothing c.args.text.now (c.in-Err.ensures.err (search rules)))
