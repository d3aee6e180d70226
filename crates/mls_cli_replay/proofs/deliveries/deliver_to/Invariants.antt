use Rattle.mls_cli_replay.proofs.Delivering.{Delivered}
use Rattle.mls_cli_replay.proofs.deliveries.deliver_to.Given as goal

abbrev pub invariant-loop-member : goal.invariant-loop-member
invariant-loop-member g l = Delivered g.S.Suite.crypto l.initial.world l.source l.members l.member-index l.world l.tally
