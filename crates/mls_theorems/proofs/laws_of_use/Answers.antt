use Rattle.mls_theorems.proofs.laws_of_use.Goals as goal
use Rattle.mls_theorems.proofs.Used.{used_by_names_lem, used_by_entry, used_alike, used_for_other, removes_in_lem, adds_in_lem, used_same}

pub returns : goal.returns
returns c = record { names = used_by_names_lem; entry = used_by_entry; alike = used_alike; other = used_for_other; removes = removes_in_lem; adds = adds_in_lem; same = used_same }
