use Rattle.mls_leaf.specs.Limits.{input_limit}
use Rattle.mls_leaf.proofs.WholeLaws.{told_outright, whole_answered}
use Rattle.mls_leaf.proofs.codec.fault_or.Goals as goal

pub returns-in-Err-clause-outright : goal.returns-in-Err-clause-outright
returns-in-Err-clause-outright g c = told_outright c.in-Err.fault _ (whole_answered g.T.Codec.format input_limit c.args.bytes.now g.met.T.Codec.faults) c.in-Err.ensures
