use Rattle.mls_private_message.proofs.WholeSenderData.{no_value, all_read, bytes_left}
use Rattle.mls_private_message.proofs.sender_data.read_sender_data.Goals as goal

pub returns-in_default : goal.returns-in_default
returns-in_default c = no_value c.args.bytes.now _ _ c.new-reader.ensures c.in_default.ensures

pub returns-then-is_empty : goal.returns-then-is_empty
returns-then-is_empty c = all_read c.args.bytes.now _ _ _ c.new-reader.ensures c.in-Ok.ensures (c.is_empty.ensures.empty.0 c.if-is_empty.true)

pub returns-else-is_empty : goal.returns-else-is_empty
returns-else-is_empty c = bytes_left c.args.bytes.now _ _ _ c.is_empty.result c.new-reader.ensures c.in-Ok.ensures c.if-is_empty.false c.is_empty.ensures.empty.1
