-- The capabilities that members write have a spelling.
use Rattle.std.proofs.Common.{◌<◌, ◌^◌, lit<}
use Rattle.mls_wire.specs.Reading.{uint}
use Rattle.mls_leaf.specs.Leaf.{capabilities}
use Rattle.mls_suite.specs.Crypto.{Crypto}
use Rattle.mls_model.specs.Candidate.{made_capabilities}

pub capabilities_fit : (c : Crypto) → c.number < 2 ^ 16 → capabilities.Fits (made_capabilities c)
unfolding capabilities made_capabilities uint
capabilities_fit c lt = (((lit< tt, tt), lit< tt), (((lt, tt), lit< tt), ((tt, lit< tt), ((tt, lit< tt), ((lit< tt, tt), lit< tt)))))
