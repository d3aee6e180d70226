use Rattle.std.proofs.Common.{◌∙◌, List, Option, ap, arith, map, string_bytes, sym, ℕ}
use Rattle.std.proofs.lemmas.Option.{slice_get-map}
use Rattle.serde_json.specs.View.{view}
use Rattle.mls_cli_record.specs.Record.{event_with_reply}
use Rattle.mls_cli_record.proofs.Made.{events_all, events_next}
use Rattle.mls_cli_record.proofs.events_with_replies.Goals as goal

pub loop-number-preserved : goal.loop-number-preserved
loop-number-preserved c =
    events_next (map string_bytes c.args.replies.now) c.args.events.now c.loop-number.number c.index-events-number.result c.in_ok-event_with_reply.field-0 c.loop-number.list.items _
    c.loop-number-test.true c.index-events-number.is
    (c.in_ok-event_with_reply.ensures
    ∙ ap (λ (r : Option (List ℕ)). event_with_reply r (view c.index-events-number.result)) (c.reply_at.ensures ∙ sym (slice_get-map string_bytes c.args.replies.now c.loop-number.number)))
    c.in_ok-push.ensures.items c.loop-number.invariant

pub returns : goal.returns
returns c = events_all (map string_bytes c.args.replies.now) c.args.events.now c.loop-number.number c.loop-number.list.items (omega arith) c.loop-number.invariant
