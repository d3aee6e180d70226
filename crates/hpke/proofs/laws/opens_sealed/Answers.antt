use Rattle.hpke.proofs.HpkeLaws.{opens_sealed}
use Rattle.hpke.proofs.laws.opens_sealed.Goals as goal

pub returns : goal.returns
returns c = opens_sealed
