use Rattle.mls_suite.proofs.LabelLaws.{signs_short}
use Rattle.mls_suite.proofs.labels.signature_is_short.Goals as goal

pub returns : goal.returns
returns g c = signs_short g.S.Suite.crypto g.met.S.Suite.lawful
