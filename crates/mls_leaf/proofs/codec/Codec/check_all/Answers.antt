use Rattle.mls_leaf.specs.Limits.{input_limit}
use Rattle.mls_leaf.proofs.WholeLaws.{whole_told}
use Rattle.mls_leaf.proofs.codec.Codec.check_all.Goals as goal

pub returns : goal.returns
returns g c = whole_told g.Self.Codec.format input_limit c.args.bytes.now c.check_whole.result c.check_whole.ensures
