use Rattle.mls_conversation.proofs.Sharing.{arrives_at_members}
use Rattle.mls_conversation.proofs.laws.sealed_arrives_at_members.Goals as goal

pub returns : goal.returns
returns g c = arrives_at_members g.S.Suite.crypto g.met.S.Suite.lawful
