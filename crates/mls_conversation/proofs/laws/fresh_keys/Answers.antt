use Rattle.mls_conversation.proofs.Sharing.{fresh_can_open}
use Rattle.mls_conversation.proofs.laws.fresh_keys.Goals as goal

pub returns : goal.returns
returns c = fresh_can_open
