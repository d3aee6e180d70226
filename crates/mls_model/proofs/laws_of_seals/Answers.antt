use Rattle.mls_model.proofs.laws_of_seals.Goals as goal
use Rattle.mls_model.proofs.SealLaws.{entries_by_number, entries_are_counted}

pub returns : goal.returns
returns c = record { numbered = entries_by_number; counted = entries_are_counted }
