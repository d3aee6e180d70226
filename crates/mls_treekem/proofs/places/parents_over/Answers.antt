use Rattle.mls_treekem.proofs.Levels.{from_none}
use Rattle.mls_treekem.proofs.Place.{zeros_low, zeros_fit, way_found}
use Rattle.mls_treekem.proofs.places.parents_over.Goals as goal

pub push_places-requires-clause-low : goal.push_places-requires-clause-low
push_places-requires-clause-low c = zeros_low c.args.tree.now _ c.leaf_count-height.ensures c.leaf_count-height.type_inv

pub push_places-requires-clause-fits : goal.push_places-requires-clause-fits
push_places-requires-clause-fits c = zeros_fit c.args.tree.now _ c.leaf_count-height.ensures c.leaf_count-height.type_inv

pub returns : goal.returns
returns c =
    way_found c.args.tree.now _ c.leaf_count-height.ensures c.leaf_count-height.type_inv c.args.i _ (from_none _ _ _ c.in_ok-push_places.ensures c.in_ok-places.ensures.items)
