use Rattle.std.proofs.Common.{map, string_bytes}
use Rattle.mls_cli_record.proofs.Made.{Events}
use Rattle.mls_cli_record.proofs.events_with_replies.Given as goal

abbrev pub invariant-loop-number : goal.invariant-loop-number
invariant-loop-number l = Events (map string_bytes l.replies) l.events l.number l.list.items
