use Rattle.mls_theorems.proofs.laws_of_commits.Goals as goal
use Rattle.mls_theorems.proofs.Sound.{edits_sound, edits_good, edits_within}
use Rattle.mls_theorems.proofs.Signatures.{signatures_next}
use Rattle.mls_theorems.proofs.NextStates.{good_next, context_of_tree, leaves_next}

pub returns : goal.returns
returns c = record { sound = edits_sound; good = edits_good; within = edits_within; next = good_next; context = context_of_tree; leaves = leaves_next; signatures = signatures_next }
