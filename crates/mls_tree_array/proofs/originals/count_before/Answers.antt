use Rattle.std.proofs.Common.{Ok, Err}
use Rattle.mls_tree_array.proofs.Splitting.{splits_at}
use Rattle.mls_tree_array.proofs.originals.count_before.Goals as goal

pub returns-in-Ok : goal.returns-in-Ok
returns-in-Ok c = splits_at c.args.leaves.now c.args.end (Ok c.in-Ok.place) c.requires c.in-Ok.ensures.position

pub returns-in-Err : goal.returns-in-Err
returns-in-Err c = splits_at c.args.leaves.now c.args.end (Err c.in-Err.place) c.requires c.in-Err.ensures.position
