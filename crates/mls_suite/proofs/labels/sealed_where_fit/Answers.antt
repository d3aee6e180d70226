use Rattle.mls_suite.proofs.LabelLaws.{seals_where_fit}
use Rattle.mls_suite.proofs.labels.sealed_where_fit.Goals as goal

pub returns : goal.returns
returns g c = seals_where_fit g.S.Suite.crypto g.met.S.Suite.lawful
