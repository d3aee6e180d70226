use Rattle.mls_suite.proofs.LabelLaws.{opens_sealed}
use Rattle.mls_suite.proofs.labels.opened_as_sealed.Goals as goal

pub returns : goal.returns
returns g c = opens_sealed g.S.Suite.crypto g.met.S.Suite.lawful
