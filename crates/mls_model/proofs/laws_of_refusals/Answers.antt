use Rattle.mls_model.proofs.laws_of_refusals.Goals as goal
use Rattle.mls_model.proofs.VerdictRefusals.{verdict_refused}
use Rattle.mls_model.proofs.CallRefusals.{propose_add_refused, propose_update_refused, propose_remove_refused, propose_extensions_refused, make_refused, candidate_refused, create_refused}
use Rattle.mls_model.proofs.JoinRefusals.{join_refused}
use Rattle.mls_model.proofs.WorldRefusals.{event_refused}

pub returns : goal.returns
returns c =
    record {
      process = verdict_refused;
      add = propose_add_refused;
      update = propose_update_refused;
      remove = propose_remove_refused;
      extensions = propose_extensions_refused;
      commit = make_refused;
      candidate = candidate_refused;
      create = create_refused;
      join = join_refused;
      event = event_refused;
    }
