use Rattle.mls_cli_place.proofs.Inputs.{finds_fault, left_within}
use Rattle.mls_cli_place.proofs.message.fault_of.Goals as goal

pub returns-clause-refusal : goal.returns-clause-refusal
returns-clause-refusal g c = rw c.first_fault.ensures.found (finds_fault g.T.Codec.format g.met.T.Located.finds c.args.bytes.now)

pub returns-clause-within : goal.returns-clause-within
returns-clause-within g c = left_within g.met.T.Located.finds c.args.bytes.now c.first_fault.result c.first_fault.ensures.bytes c.first_fault.ensures.found
