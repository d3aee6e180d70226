use Rattle.mls_theorems.proofs.laws_of_staying.Goals as goal
use Rattle.mls_theorems.proofs.Staying.{edits_follow, edits_follow_committer, edits_renew}
use Rattle.mls_theorems.proofs.Exact.{member_stands}

pub returns : goal.returns
returns c = record { follow = edits_follow; committer = edits_follow_committer; renew = edits_renew; stands = member_stands }
