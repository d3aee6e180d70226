use Rattle.std.proofs.Common.{◌∙◌}
use Rattle.mls_tree_model.proofs.SearchLaws.{not_found}
use Rattle.mls_tree_hash.proofs.pieces.is_remaining.Goals as goal

pub returns : goal.returns
returns c = c.is_err.ensures.value ∙ not_found c.args.leaves.now c.args.entry c.binary_search.result c.requires c.binary_search.ensures.position
