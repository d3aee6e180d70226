use Rattle.std.proofs.Common.{◌∙◌, ap, map, string_bytes}
use Rattle.serde_json.specs.View.{view}
use Rattle.mls_cli_record.specs.Record.{with_lines}
use Rattle.mls_cli_record.proofs.Made.{text_of}
use Rattle.mls_cli_record.proofs.record_replies.Goals as goal

pub returns : goal.returns
returns c =
    text_of c.to_vec_pretty.result (view c.in_ok-whole.whole) _ (c.in_ok-whole.ensures ∙ ap (with_lines (map string_bytes c.args.lines.now)) c.in_ok-recording.ensures)
    c.to_vec_pretty.ensures.layout c.to_vec_pretty.ensures.order c.to_vec_pretty.ensures.reads_back
