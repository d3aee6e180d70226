use Rattle.std.proofs.Common.{Ok, sym, ◌∙◌, ap}
use Rattle.mls_tree_model.specs.Merge.{path_parent_hash}
use Rattle.mls_tree.proofs.Pathing.{hash_refused, hash_found}
use Rattle.std.proofs.Common.{refl}
use Rattle.mls_tree.proofs.Chilling.{warmed, unchanged}
use Rattle.mls_tree.proofs.tree.PublicTree.path_parent_hash.Goals as goal

pub returns-in-Err-clause-answer : goal.returns-in-Err-clause-answer
returns-in-Err-clause-answer c = λ _. hash_refused _ _ _ _ c.in-Err.ensures

pub returns-clause-answer : goal.returns-clause-answer
returns-clause-answer c =
    hash_found _ _ _ c.in-Ok.ensures
    ∙ ap Ok (sym (c.in_ok-from_slice.ensures.items ∙ c.bytes_of.ensures ∙ c.path_hash-hash.ensures ∙ ap (λ t. path_parent_hash t c.args.i c.args.keys.now) c.tree_hash-tree_hash.ensures.same))

pub returns-clause-warms : goal.returns-clause-warms
returns-clause-warms c = warmed c.args.self.now c.tree_hash-tree_hash.new.self c.tree_hash-tree_hash.ensures.all c.tree_hash-tree_hash.ensures.counted

pub returns-in-Err-clause-warms : goal.returns-in-Err-clause-warms
returns-in-Err-clause-warms c = unchanged _ _ refl

pub returns-in_err-from_slice-clause-warms : goal.returns-in_err-from_slice-clause-warms
returns-in_err-from_slice-clause-warms c = warmed c.args.self.now c.tree_hash-tree_hash.new.self c.tree_hash-tree_hash.ensures.all c.tree_hash-tree_hash.ensures.counted
