use Rattle.mls_cli_replay.proofs.Wording.{Worded}
use Rattle.mls_cli_replay.proofs.record.member_texts.Given as goal

abbrev pub invariant-loop-number : goal.invariant-loop-number
invariant-loop-number g l = Worded l.world.seats l.number l.texts.items
