use Rattle.std.proofs.Common.{refl, ap, ◌∙◌}
use Rattle.mls_tree.specs.Tree.{term}
use Rattle.mls_model.specs.Commit.{Edits}
use Rattle.mls_make.proofs.OwnPath.{no_path_made}
use Rattle.mls_make.proofs.own_path.no_path.Goals as goal

pub returns-clause-made : goal.returns-clause-made
returns-clause-made c = λ m same.
    no_path_made m c.args.edits.now c.args.keys.now c.in_ok-followed.followed c.follow_edit.new.self _ (term c.as_tree-tree.result.now) same c.in_ok-followed.ensures.cases refl (ap term c.as_tree-tree.ensures.tree ∙ ap (λ (e : Edits). e.tree) c.edits.view_is) c.in_ok-follow_edit.ensures.ok
