use Rattle.mls_cli_replay.proofs.OneViews.{one_view}
use Rattle.mls_cli_replay.proofs.laws_of_replays.Goals as goal

pub returns : goal.returns
returns c = one_view c.laws_of_calls.ensures.run c.laws_of_calls.ensures.replies
