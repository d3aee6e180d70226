-- The headline: what holds of each world that a list of events leaves.
use Rattle.mls_model.specs.Headline.{HoldsOnRuns}
use Rattle.mls_model.specs.Run.{run}
use Rattle.mls_model.proofs.RunLaws.{refused_leave, own_is_followed}
use Rattle.mls_model.proofs.UnchangedLaws.{others_kept, members_kept}
use Rattle.mls_model.specs.World.{empty_world}
use Rattle.mls_theorems.proofs.Accepting.{accepts_homemade, makers_keep}
use Rattle.mls_theorems.proofs.Agreeing.{agree_by_journal, secret_if_homemade, agree_by_confirmation, keys_are_exact, trees_are_good}
use Rattle.mls_theorems.proofs.Refusing.{refuses_own}
use Rattle.mls_theorems.proofs.Runs.{empty_good, runs_keep_good}
use Rattle.mls_theorems.proofs.Taking.{joins_by_number, joins_by_bytes}
use Rattle.mls_theorems.specs.Headlines.{HeadlineOfGood}

pub headline_of_good : HeadlineOfGood
headline_of_good c laws w g = record {
  public = agree_by_journal c g.0 w g.1;
  secret = secret_if_homemade c laws g.0 w g.1;
  confirmed = agree_by_confirmation c g.0 w g.1;
  accepted = accepts_homemade c laws g.0 w g.1;
  joined_by_number = joins_by_number c laws g.0 w g.1;
  joined_by_bytes = joins_by_bytes c laws g.0 w g.1;
  keys = keys_are_exact c g.0 w g.1;
  trees = trees_are_good c g.0 w g.1;
  refused = refused_leave c w;
  delivered = others_kept c w;
  joined = members_kept c w;
  pending = g.1.pending;
  names = makers_keep c g.0 w g.1;
  own = own_is_followed c w;
  own_refused = refuses_own c laws g.0 w g.1;
}

pub holds_on_runs : HoldsOnRuns
holds_on_runs c laws events range = headline_of_good c laws (run c empty_world events) (runs_keep_good c laws empty_world (empty_good c) events range)
