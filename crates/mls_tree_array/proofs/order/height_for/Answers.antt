use Rattle.std.proofs.Common.{sym, ◌∙◌, ap}
use Rattle.mls_tree_model.specs.Arrays.{height_for}
use Rattle.mls_tree_array.proofs.Sent.{height_for-zero, height_for-log}
use Rattle.mls_tree_array.proofs.order.height_for.Goals as goal

pub returns-then-len-eq0-clause-value : goal.returns-then-len-eq0-clause-value
returns-then-len-eq0-clause-value c = sym (ap height_for c.if-len-eq0.true ∙ height_for-zero)

pub returns-clause-value : goal.returns-clause-value
returns-clause-value c = sym (height_for-log c.args.len c.ilog2.result c.ilog2.ensures.power_le c.ilog2.ensures.next_power_gt)
