use Rattle.std.proofs.Common.{rules}
use Rattle.std.proofs.lemmas.Str.{is_utf8-from_IsUtf8}
use Rattle.mls_cli_json.specs.Json.{data_in}
use Rattle.mls_cli_json.proofs.Texts.{nothing}
use Rattle.mls_cli_json.proofs.file.value_of.Goals as goal

pub returns-in-Ok : goal.returns-in-Ok
unfolding data_in
returns-in-Ok c = rw (is_utf8-from_IsUtf8 c.args.file.now c.in-Ok.ensures.ok.0) c.in-Ok.ensures.ok.1

pub returns-else-is_memory : goal.returns-else-is_memory
returns-else-is_memory c = nothing c.args.file.now (c.in-Err.ensures.err (search rules))
