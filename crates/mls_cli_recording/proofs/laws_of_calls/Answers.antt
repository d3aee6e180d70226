use Rattle.mls_cli_recording.proofs.laws_of_calls.Goals as goal
use Rattle.mls_cli_recording.proofs.SameCalls.{same_run, same_replies}

pub returns : goal.returns
returns c = record { run = same_run; replies = same_replies }
