use Rattle.mls_conversation.proofs.Order.{arrive_once}
use Rattle.mls_conversation.proofs.laws.arrives_once_at_members.Goals as goal

pub returns : goal.returns
returns g c = arrive_once g.S.Suite.crypto g.met.S.Suite.lawful
