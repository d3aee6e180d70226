use Rattle.std.proofs.Common.{[], refl, subst}
use Rattle.mls_tree_array.specs.WayHashes.{HashesMerged}
use Rattle.mls_tree.specs.Tree.{term}
use Rattle.mls_tree.proofs.Pathing.{merge_refused, merge_done}
use Rattle.mls_tree.proofs.Following.{is_prepared}
use Rattle.mls_tree.proofs.tree.PublicTree.prepare_path.Goals as goal

pub returns-in-Err-clause-answer : goal.returns-in-Err-clause-answer
returns-in-Err-clause-answer c = λ other. merge_refused _ _ _ _ _ (c.in-Err.ensures.checks other)

pub returns-clause-answer : goal.returns-clause-answer
returns-clause-answer c = merge_done _ _ _ _ c.in-Ok.ensures.checks

pub returns-clause-prepared : goal.returns-clause-prepared
returns-clause-prepared c =
    let made = c.in_ok-hashes.hashes.items in
    let root = c.in_ok-hashes.root in
    is_prepared _ _ c.args.leaf _ c.args.keys.items _ made root c.in-Ok.ensures.checks c.in-Ok.ensures.parents
    (subst (λ ps. HashesMerged 0 (term c.args.self.now) c.args.i ps c.args.leaf root [] made) c.deref.ensures.value c.in_ok-hashes.ensures)
    refl
