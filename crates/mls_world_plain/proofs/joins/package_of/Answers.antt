use Rattle.mls_world_plain.proofs.Readings.{package_rest}
use Rattle.mls_world_plain.proofs.joins.package_of.Goals as goal

pub returns : goal.returns
returns g c = package_rest c.message-message.result.now c.args.candidate.now.offered c.message-message.ensures
