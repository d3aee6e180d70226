use Rattle.mls_saved_state.proofs.Loading.{are_few}
use Rattle.mls_saved_state.proofs.keys.saved_keys.Goals as goal

pub from_keys-requires : goal.from_keys-requires
from_keys-requires c = are_few _ _ c.in_ok-above.ensures
