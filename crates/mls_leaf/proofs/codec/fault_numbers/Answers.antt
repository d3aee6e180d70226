use Rattle.mls_leaf.specs.Limits.{input_limit}
use Rattle.mls_leaf.proofs.WholeLaws.{is_answered, is_input_answered}
use Rattle.mls_leaf.proofs.codec.fault_numbers.Goals as goal

pub returns : goal.returns
returns g c = record { readings = is_answered g.T.Codec.format g.met.T.Codec.faults; inputs = is_input_answered g.T.Codec.format input_limit g.met.T.Codec.faults }
