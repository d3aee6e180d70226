use Rattle.std.proofs.Common.{◌∙◌, ap}
use Rattle.mls_tree_model.specs.Arrays.{parent_in}
use Rattle.mls_treekem.specs.Place.{step_of}
use Rattle.mls_treekem.proofs.places.Place.parent.Goals as goal

pub returns : goal.returns
unfolding step_of
returns c = c.parent_in.ensures ∙ ap parent_in c.node.ensures
