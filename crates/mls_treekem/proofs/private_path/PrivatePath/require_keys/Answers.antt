use Rattle.std.proofs.Common.{refl, ◌∙◌}
use Rattle.mls_treekem.proofs.Due.{all_due}
use Rattle.mls_treekem.proofs.Place.{zeros_low, zeros_fit}
use Rattle.mls_treekem.proofs.private_path.PrivatePath.require_keys.Goals as goal

pub has_due_keys-requires-clause-low : goal.has_due_keys-requires-clause-low
has_due_keys-requires-clause-low c = zeros_low c.args.tree.now _ c.leaf_count.ensures c.leaf_count.type_inv

pub has_due_keys-requires-clause-fits : goal.has_due_keys-requires-clause-fits
has_due_keys-requires-clause-fits c = zeros_fit c.args.tree.now _ c.leaf_count.ensures c.leaf_count.type_inv

pub returns-then-not-has_due_keys : goal.returns-then-not-has_due_keys
returns-then-not-has_due_keys c = (refl, all_due c.args.tree.now _ c.leaf_count.ensures c.leaf_count.type_inv c.args.self.now c.has_due_keys.result c.has_due_keys.ensures ∙ c.if-not-has_due_keys.true)

pub returns : goal.returns
returns c = all_due c.args.tree.now _ c.leaf_count.ensures c.leaf_count.type_inv c.args.self.now c.has_due_keys.result c.has_due_keys.ensures ∙ c.if-not-has_due_keys.false
