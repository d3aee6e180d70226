use Rattle.std.proofs.Common.{arith}
use Rattle.mls_cli_record.proofs.Made.{texts_all, texts_next}
use Rattle.mls_cli_record.proofs.text_values.Goals as goal

pub loop-text-preserved : goal.loop-text-preserved
loop-text-preserved c =
    texts_next c.args.texts.now c.loop-text.text-index c.text-item.result c.in_ok-text_value.field-0 c.loop-text.list.items _ c.loop-text-test.true
    c.text-item.is c.in_ok-text_value.ensures c.in_ok-push.ensures.items c.loop-text.invariant

pub returns : goal.returns
returns c = texts_all c.args.texts.now c.loop-text.text-index c.loop-text.list.items (omega arith) c.loop-text.invariant
