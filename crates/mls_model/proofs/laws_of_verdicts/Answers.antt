use Rattle.mls_model.proofs.laws_of_verdicts.Goals as goal
use Rattle.mls_model.proofs.EpochLaws.{advanced_active}
use Rattle.mls_model.proofs.Receipts.{framing_did, framing_passes}
use Rattle.mls_model.proofs.WayLaws.{taken_so, refused_so}
use Rattle.mls_model.proofs.WayBackLaws.{so_taken, so_refused}

pub returns : goal.returns
returns c = record { framed = framing_did; passes = framing_passes; taken = taken_so; so_taken = so_taken; advanced = advanced_active; refused = refused_so; so_refused = so_refused }
