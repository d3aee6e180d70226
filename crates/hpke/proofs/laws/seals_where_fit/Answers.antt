use Rattle.hpke.proofs.HpkeLaws.{seals_where_fit}
use Rattle.hpke.proofs.laws.seals_where_fit.Goals as goal

pub returns : goal.returns
returns c = seals_where_fit
