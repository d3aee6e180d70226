use Rattle.mls_conversation.proofs.Conversing.{together_converse}
use Rattle.mls_conversation.proofs.laws.messages_arrive.Goals as goal

pub returns : goal.returns
returns g c = together_converse g.S.Suite.crypto g.met.S.Suite.lawful
