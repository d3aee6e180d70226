use Rattle.std.proofs.Common.{refl}
use Rattle.mls_tree_index.proofs.block.entry_in.Goals as goal

pub returns : goal.returns
returns c = refl
