use Rattle.mls_model.proofs.laws_of_records.Goals as goal
use Rattle.mls_model.proofs.WorldLaws.{found_is_first, first_is_found, none_is_found, none_to_find}

pub returns : goal.returns
returns c = record { found = found_is_first; first = first_is_found; none = none_is_found; no_record = none_to_find }
