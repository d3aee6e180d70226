use Rattle.std.proofs.Common.{sym, ap, ◌∙◌}
use Rattle.std.proofs.lemmas.Result.{err_from_is_err_and}
use Rattle.mls_tree.specs.Tree.{term}
use Rattle.mls_model.specs.PublicState.{PublicState}
use Rattle.mls_public_group.specs.ProposalList.{edit_tree}
use Rattle.mls_public_group.proofs.EditedLemmas.{edited_apart, edited_applied, edited_distinct, edited_ok}
use Rattle.mls_public_group.proofs.EditedLemmas.{edited_full}
use Rattle.mls_public_group.specs.Faults.{number_of}
use Rattle.mls_public_group.proofs.Leaves.{leaves_longer, below_applied}
use Rattle.mls_public_group.proofs.group.PublicGroup.apply_proposals.Goals as goal

pub returns-in_err-require_full-clause-answer : goal.returns-in_err-require_full-clause-answer
returns-in_err-require_full-clause-answer g c =
    let p = err_from_is_err_and c.from_residual.result c.from_residual.ensures.1 in
    rw (p.1, p.2) (λ other. edited_full g.S.Suite.crypto c.args.self.now c.args.committer c.args.used.now (number_of c.in_err-require_full.field-0.0) (c.in_err-require_full.ensures other))

pub returns-in_err-check_proposal_list-clause-answer : goal.returns-in_err-check_proposal_list-clause-answer
returns-in_err-check_proposal_list-clause-answer g c =
    let p = err_from_is_err_and c.from_residual-in_err-check_proposal_list.result c.from_residual-in_err-check_proposal_list.ensures.1 in
    rw (p.1, p.2) (λ other. edited_apart g.S.Suite.crypto c.args.self.now c.args.committer c.args.used.now c.in_ok-require_full.ensures
    (number_of c.in_err-check_proposal_list.field-0.0) (c.in_err-check_proposal_list.ensures other))

pub returns-in_err-edits-clause-answer : goal.returns-in_err-edits-clause-answer
returns-in_err-edits-clause-answer g c =
    let p = err_from_is_err_and c.from_residual-in_err-edits.result c.from_residual-in_err-edits.ensures.1 in
    let tree = sym (ap (λ (s : PublicState). s.tree) c.self.view_is) in
    rw (p.1, p.2) (λ other. edited_applied g.S.Suite.crypto c.args.self.now c.args.committer c.args.used.now c.in_ok-require_full.ensures c.in_ok-check_proposal_list.ensures
    (number_of c.in_err-edits.field-0.0) (ap (λ t. edit_tree t c.args.used.now) tree ∙ c.in_err-edits.ensures other))

pub returns-in_err-require_distinct-clause-answer : goal.returns-in_err-require_distinct-clause-answer
returns-in_err-require_distinct-clause-answer g c =
    let p = err_from_is_err_and c.from_residual-in_err-require_distinct.result c.from_residual-in_err-require_distinct.ensures.1 in
    let tree = sym (ap (λ (s : PublicState). s.tree) c.self.view_is) in
    rw (p.1, p.2) (λ other. edited_distinct g.S.Suite.crypto c.args.self.now c.args.committer c.args.used.now c.in_ok-require_full.ensures c.in_ok-check_proposal_list.ensures
    c.in_ok-edits.edits (ap (λ t. edit_tree t c.args.used.now) tree ∙ c.in_ok-edits.ensures) (number_of c.in_err-require_distinct.field-0.0) (c.in_err-require_distinct.ensures other))

pub returns-clause-answer : goal.returns-clause-answer
returns-clause-answer g c =
    let tree = sym (ap (λ (s : PublicState). s.tree) c.self.view_is) in
    edited_ok g.S.Suite.crypto c.args.self.now c.args.committer c.args.used.now c.in_ok-require_full.ensures c.in_ok-check_proposal_list.ensures
    c.in_ok-edits.edits (ap (λ t. edit_tree t c.args.used.now) tree ∙ c.in_ok-edits.ensures) c.in_ok-require_distinct.ensures

pub returns-clause-below : goal.returns-clause-below
returns-clause-below g c = λ n le short.
    below_applied n (term c.self.inside.tree) c.args.used.now c.in_ok-edits.edits short c.in_ok-edits.ensures
    (leaves_longer 134217728 n (term c.self.inside.tree) le c.self.invariant.2)
