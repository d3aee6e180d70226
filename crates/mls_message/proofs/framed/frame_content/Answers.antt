use Rattle.mls_message.proofs.WithinLaws.{said_fits}
use Rattle.mls_message.proofs.framed.frame_content.Goals as goal

pub returns-clause-fits : goal.returns-clause-fits
returns-clause-fits c =
    said_fits c.in_ok-clone.field-0 c.context-context.result.now.epoch c.args.speaker.now.leaf c.from_vec.result c.args.content (rw c.context-context.ensures c.is_short.ensures.context.epoch) c.know_index.ensures c.requires
