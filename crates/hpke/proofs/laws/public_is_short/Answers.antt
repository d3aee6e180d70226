use Rattle.hpke.proofs.HpkeLaws.{public_is_short}
use Rattle.hpke.proofs.laws.public_is_short.Goals as goal

pub returns : goal.returns
returns c = public_is_short
