use Rattle.mls_saved_state.proofs.Loading.{loads_what_was_saved}
use Rattle.mls_saved_state.proofs.laws.laws_of_saved_states.Goals as goal

pub returns : goal.returns
returns c = loads_what_was_saved
