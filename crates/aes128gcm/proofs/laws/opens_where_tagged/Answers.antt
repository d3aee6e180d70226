use Rattle.aes128gcm.proofs.GcmLaws.{opens_where_tagged}
use Rattle.aes128gcm.proofs.laws.opens_where_tagged.Goals as goal

pub returns : goal.returns
returns c = opens_where_tagged
