use Rattle.std.proofs.Common.{◌∙◌}
use Rattle.mls_tree_model.proofs.SetLaws.{same-pointwise}
use Rattle.mls_tree_array.proofs.validity.same_bytes.Goals as goal

pub returns : goal.returns
returns c = c.eq.ensures ∙ same-pointwise c.args.left.now c.args.right.now
