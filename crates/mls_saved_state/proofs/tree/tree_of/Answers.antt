use Rattle.std.proofs.Common.{◌^◌}
use Rattle.mls_public_group.proofs.LeavesBelow.{leaves_below}
use Rattle.mls_saved_state.proofs.tree.tree_of.Goals as goal

pub returns-clause-below : goal.returns-clause-below
returns-clause-below c = leaves_below (2 ^ 27) c.args.nodes c.into_vec.result.items _ c.requires c.into_vec.ensures c.in_ok-tree.ensures.answer
