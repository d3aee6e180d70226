use Rattle.mls_model.proofs.laws_of_runs.Goals as goal
use Rattle.mls_model.proofs.RunLaws.{run_in_parts, replies_in_parts, one_reply_each, refused_leave, answered_step, own_is_followed}
use Rattle.mls_model.proofs.UnchangedLaws.{others_kept, members_kept}

pub returns : goal.returns
returns c = record { run = run_in_parts; replies = replies_in_parts; each = one_reply_each; refused = refused_leave; answered = answered_step; delivered = others_kept; joined = members_kept; own = own_is_followed }
