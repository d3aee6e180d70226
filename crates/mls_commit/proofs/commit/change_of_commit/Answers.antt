use Rattle.std.proofs.Common.{◌^◌, sym, subst, ◌∙◌}
use Rattle.mls_leaf.specs.GroupExtensions.{group_extensions}
use Rattle.mls_commit.proofs.Below.{below_merged}
use Rattle.mls_public_group.specs.NextTree.{next_term}
use Rattle.mls_public_group.specs.Short.{IsBelow}
use Rattle.mls_commit.proofs.Bodies.{body_ok, below_change}
use Rattle.mls_commit.proofs.Paths.{edits_stay}
use Rattle.mls_commit.proofs.Receiving.{and_right, own_tree, no_edits, edits_of_change}
use Rattle.mls_commit.proofs.commit.change_of_commit.Goals as goal

pub apply_path_if-requires-clause-stays : goal.apply_path_if-requires-clause-stays
apply_path_if-requires-clause-stays g c = edits_stay g.S.Suite.crypto c.args.group.now c.args.committer c.args.used.now c.in_ok-edits.edits c.in_ok-edits.ensures.answer

pub new-requires-clause-extensions : goal.new-requires-clause-extensions
new-requires-clause-extensions g c = subst (IsBelow (2 ^ 27) group_extensions) (sym c.extensions_after-extensions.ensures) c.requires.extensions

pub returns-clause-answer : goal.returns-clause-answer
returns-clause-answer g c = λ content spelled.
    body_ok g.S.Suite.crypto c.args.group.now c.args.committer c.args.used.now c.args.commit.now content c.args.said.now c.args.signature.now c.extensions_after-extensions.result.now c.in_ok-edits.edits (next_term c.in_ok-edits.edits.tree c.in_ok-tree.tree) c.in_ok-outcome.outcome.change spelled c.extensions_after-extensions.ensures c.in_ok-edits.ensures.answer
    (sym c.has_due_path.ensures ∙ c.if-not-has_due_path.false)
    c.in_ok-tree.ensures.answer c.in_ok-outcome.ensures.change

pub returns-clause-below : goal.returns-clause-below
returns-clause-below g c = λ n le used path.
    let edits = c.in_ok-edits.ensures.below n le used in
    below_change c.args.group.now c.extensions_after-extensions.result.now c.in_ok-edits.edits (next_term c.in_ok-edits.edits.tree c.in_ok-tree.tree) c.args.said.now c.args.signature.now n c.in_ok-outcome.outcome.change c.in_ok-outcome.ensures.change
    edits (below_merged g.S.Suite.crypto c.args.group.now c.args.committer c.in_ok-edits.edits c.args.commit.now.path (next_term c.in_ok-edits.edits.tree c.in_ok-tree.tree) n c.in_ok-tree.ensures.answer path edits)

pub returns-clause-own : goal.returns-clause-own
returns-clause-own g c = λ on.
    let none = and_right _ _ (sym (own_tree _ _ _ _ _ c.in_ok-tree.ensures.own c.of-base.ensures c.in_ok-outcome.ensures.own) ∙ on) in
    edits_of_change c.args.group.now c.extensions_after-extensions.result.now c.in_ok-edits.edits _ c.args.said.now c.args.signature.now c.in_ok-outcome.outcome.change c.in_ok-outcome.ensures.change
    ∙ no_edits g.S.Suite.crypto c.args.group.now c.args.committer c.args.used.now c.in_ok-edits.edits none c.in_ok-edits.ensures.answer

pub returns-clause-merged : goal.returns-clause-merged
returns-clause-merged g c = own_tree _ _ _ _ _ c.in_ok-tree.ensures.own c.of-base.ensures c.in_ok-outcome.ensures.own
