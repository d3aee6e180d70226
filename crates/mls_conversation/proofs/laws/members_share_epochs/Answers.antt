use Rattle.mls_conversation.proofs.Conversing.{together_share}
use Rattle.mls_conversation.proofs.laws.members_share_epochs.Goals as goal

pub returns : goal.returns
returns g c = together_share g.S.Suite.crypto g.met.S.Suite.lawful
