use Rattle.mls_theorems.proofs.laws_of_messages.Goals as goal
use Rattle.mls_theorems.proofs.Fit.{commit_fits}
use Rattle.mls_theorems.proofs.Sent.{path_did, made_fits}
use Rattle.mls_theorems.proofs.SentLists.{lists_fit}
use Rattle.mls_theorems.proofs.Framing.{made_is_framed}

pub returns : goal.returns
returns c = record { commit = commit_fits; path = path_did; made = made_fits; lists = lists_fit; framed = made_is_framed }
