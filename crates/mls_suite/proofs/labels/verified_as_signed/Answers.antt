use Rattle.mls_suite.proofs.LabelLaws.{verifies_signed}
use Rattle.mls_suite.proofs.labels.verified_as_signed.Goals as goal

pub returns : goal.returns
returns g c = verifies_signed g.S.Suite.crypto g.met.S.Suite.lawful
