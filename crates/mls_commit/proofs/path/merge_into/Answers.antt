use Rattle.std.proofs.Common.{sym, ◌∙◌, ap}
use Rattle.mls_model.specs.Commit.{Edits}
use Rattle.mls_tree.specs.Tree.{term}
use Rattle.mls_commit.proofs.Receiving.{prepared_answer, prepared_follows, edited_answer, edited_follows}
use Rattle.mls_commit.proofs.path.merge_into.Goals as goal

pub returns-in-GroupTree-clause-answer : goal.returns-in-GroupTree-clause-answer
returns-in-GroupTree-clause-answer c =
    let same = ap term c.as_tree-tree.ensures.tree ∙ ap (λ (e : Edits). e.tree) c.edits.view_is in
    prepared_answer _ _ c.in_ok-path.path _ _ _ same c.in_ok-path.ensures.answer c.in_ok-path.ensures.prepared.1

pub returns-in-GroupTree-clause-follows : goal.returns-in-GroupTree-clause-follows
returns-in-GroupTree-clause-follows c =
    let same = ap term c.as_tree-tree.ensures.tree ∙ ap (λ (e : Edits). e.tree) c.edits.view_is in
    prepared_follows _ _ c.in_ok-path.path same c.in_ok-path.ensures.prepared.0

pub returns-in_ok-clone-in-EditedTree-clause-answer : goal.returns-in_ok-clone-in-EditedTree-clause-answer
returns-in_ok-clone-in-EditedTree-clause-answer c =
    let same = ap term c.as_tree-tree.ensures.tree ∙ ap (λ (e : Edits). e.tree) c.edits.view_is in
    let copy = ap term c.in_ok-clone-in-EditedTree.ensures.cases ∙ sym (ap term c.as_tree-tree.ensures.tree) in
    edited_answer _ _ _ c.in_ok-path.path _ _ _ same copy c.in_ok-path.ensures.answer c.in_ok-path.ensures.prepared.1

pub returns-in_ok-clone-in-EditedTree-clause-follows : goal.returns-in_ok-clone-in-EditedTree-clause-follows
returns-in_ok-clone-in-EditedTree-clause-follows c =
    let copy = ap term c.in_ok-clone-in-EditedTree.ensures.cases ∙ sym (ap term c.as_tree-tree.ensures.tree) in
    edited_follows _ _ _ c.in_ok-path.path copy c.in_ok-path.ensures.prepared.0
