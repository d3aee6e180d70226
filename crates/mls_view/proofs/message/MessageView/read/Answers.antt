use Rattle.mls_view.proofs.MessageLaws.{never_memory}
use Rattle.mls_view.proofs.message.MessageView.read.Goals as goal

pub returns-clause-no_memory : goal.returns-clause-no_memory
returns-clause-no_memory c = never_memory c.args.bytes.now c.read_whole.result c.read_whole.ensures
