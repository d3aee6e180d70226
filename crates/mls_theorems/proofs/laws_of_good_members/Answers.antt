use Rattle.mls_theorems.proofs.laws_of_good_members.Goals as goal
use Rattle.mls_theorems.proofs.Committed.{created_good, committed_good}
use Rattle.mls_theorems.proofs.Delivered.{delivered_good}
use Rattle.mls_theorems.proofs.Entered.{joined_good}
use Rattle.mls_theorems.proofs.Next.{is_next}
use Rattle.mls_theorems.proofs.Offered.{candidate_good}
use Rattle.mls_theorems.proofs.Proposing.{added_good, updated_good, removed_good, extended_good}
use Rattle.mls_theorems.proofs.UnchangedMembers.{dropped_good}

pub returns : goal.returns
returns c = record {
  candidates = candidate_good;
  creators = created_good;
  joiners = joined_good;
  adds = added_good;
  updates = updated_good;
  removes = removed_good;
  extensions = extended_good;
  commits = committed_good;
  drops = dropped_good;
  deliveries = delivered_good;
  next = is_next;
}
