use Rattle.std.proofs.Common.{refl}
use Rattle.mls_world_plain.specs.ActiveMembers.{active}
use Rattle.mls_cli_replay.specs.Actions.{deliveries}
use Rattle.mls_cli_replay.proofs.Delivering.{nothing_run}
use Rattle.mls_cli_replay.proofs.Playing.{on_err}
use Rattle.mls_cli_replay.proofs.deliveries.deliver_to_all.Goals as goal

pub returns-in_err-members-clause-part : goal.returns-in_err-members-clause-part
returns-in_err-members-clause-part g c =
    on_err c.from_residual.result (nothing_run g.S.Suite.crypto c.args.world.now c.args.world.now (deliveries c.args.source.now (active c.args.world.now.seats)) refl)
