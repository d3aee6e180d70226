use Rattle.mls_theorems.proofs.laws_of_kept.Goals as goal
use Rattle.mls_theorems.proofs.Own.{used_have_passed, used_are_owned}

pub returns : goal.returns
returns c = record { passed = used_have_passed; owned = used_are_owned }
