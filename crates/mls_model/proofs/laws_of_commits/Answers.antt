use Rattle.mls_model.proofs.laws_of_commits.Goals as goal
use Rattle.mls_model.proofs.CommitLaws.{next_is_refused, next_is_body, names_in_order, names_are_held}

pub returns : goal.returns
returns c = record { refused = next_is_refused; body = next_is_body; names = names_in_order; held = names_are_held }
