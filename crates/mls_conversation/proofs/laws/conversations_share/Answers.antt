use Rattle.mls_conversation.proofs.Sharing.{members_share}
use Rattle.mls_conversation.proofs.laws.conversations_share.Goals as goal

pub returns : goal.returns
returns g c = members_share g.S.Suite.crypto
