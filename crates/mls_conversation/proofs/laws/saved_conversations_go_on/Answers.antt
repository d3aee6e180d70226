use Rattle.mls_conversation.proofs.Restoring.{saved_go_on}
use Rattle.mls_conversation.proofs.laws.saved_conversations_go_on.Goals as goal

pub returns : goal.returns
returns g c = saved_go_on g.S.Suite.crypto
