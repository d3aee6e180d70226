use Rattle.std.proofs.Common.{◌∙◌}
use Rattle.mls_tree_model.proofs.SearchLaws.{found}
use Rattle.mls_tree_array.proofs.lists.has.Goals as goal

pub returns : goal.returns
returns c = c.is_ok.ensures.value ∙ found c.args.leaves.now c.args.leaf c.binary_search.result c.requires c.binary_search.ensures.position
