use Rattle.std.proofs.Common.{Ok, Err}
use Rattle.mls_leaf.proofs.Places.{placed, fresh}
use Rattle.mls_leaf.proofs.parent_node.place_for.Goals as goal

pub returns-in-Ok : goal.returns-in-Ok
returns-in-Ok c = placed c.args.entries.now c.args.leaf (Ok c.in-Ok.field-0) c.requires c.in-Ok.ensures.position

pub returns-in-Err : goal.returns-in-Err
returns-in-Err c =
    let at = placed c.args.entries.now c.args.leaf (Err c.in-Err.place) c.requires c.in-Err.ensures.position in
    (at.0, at.1, fresh c.args.entries.now c.args.leaf c.in-Err.place c.requires c.in-Err.ensures.position)
