use Rattle.mls_theorems.proofs.laws_of_receivers.Goals as goal
use Rattle.mls_theorems.proofs.Opened.{body_did, receiver_climbs}
use Rattle.mls_theorems.proofs.Received.{receivers_of_staying}
use Rattle.mls_theorems.proofs.Stays.{member_stays, made_is_received, receivers_hold}

pub returns : goal.returns
returns c = record { body = body_did; climbs = receiver_climbs; receive = receivers_of_staying; stays = member_stays; received = made_is_received; claim = receivers_hold }
