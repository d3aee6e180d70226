use Rattle.std.proofs.Common.{◌∙◌, ap}
use Rattle.mls_model.specs.Commit.{Edits}
use Rattle.mls_tree.specs.Tree.{term}
use Rattle.mls_commit.proofs.Receiving.{none_merged, edited_alone_follows}
use Rattle.mls_commit.proofs.commit.apply_path_if.Goals as goal

pub returns-in_ok-clone-in-None-clause-answer : goal.returns-in_ok-clone-in-None-clause-answer
returns-in_ok-clone-in-None-clause-answer g c =
    none_merged g.S.Suite.crypto c.args.group.now c.args.committer c.args.edits.now c.args.path.now _ c.in-None.is (ap term c.in_ok-clone-in-None.ensures.cases ∙ ap (λ (e : Edits). e.tree) c.edits.view_is)

pub returns-in_ok-clone-in-None-clause-follows : goal.returns-in_ok-clone-in-None-clause-follows
returns-in_ok-clone-in-None-clause-follows g c = edited_alone_follows _ _
