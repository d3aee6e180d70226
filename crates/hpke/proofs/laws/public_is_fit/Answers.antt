use Rattle.hpke.proofs.HpkeLaws.{public_is_fit}
use Rattle.hpke.proofs.laws.public_is_fit.Goals as goal

pub returns : goal.returns
returns c = public_is_fit
