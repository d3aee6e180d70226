use Rattle.std.proofs.Common.{◌+◌, drop, List, sym, ap, ◌∙◌}
use Rattle.std.proofs.lemmas.Result.{err_from_is_err_and}
use Rattle.mls_tree.specs.Tree.{term}
use Rattle.mls_model.specs.PublicState.{Used}
use Rattle.mls_model.specs.Proposals.{updates}
use Rattle.mls_model.specs.Commit.{apply_updates}
use Rattle.mls_public_group.specs.Faults.{number_of}
use Rattle.mls_public_group.proofs.Rest.{here, over}
use Rattle.mls_public_group.proofs.Folding.{updates_more, updates_fail, updates_end}
use Rattle.mls_public_group.proofs.proposal_list.apply_updates.Goals as goal

pub returns-in_err-apply_update : goal.returns-in_err-apply_update
returns-in_err-apply_update c =
    let p = err_from_is_err_and c.from_residual.result c.from_residual.ensures.1 in
    let t = term c.loop-one.tree in
    let u = c.one-item.result in
    let k = c.loop-one.one-index in
    rw (p.1, p.2) (λ other. sym c.loop-one.invariant ∙ ap (λ (us : List Used). apply_updates t (updates us)) (here c.args.used.now k u c.loop-one-test.true c.one-item.is)
    ∙ updates_fail t u (drop (k + 1) c.args.used.now) (number_of c.in_err-apply_update.field-0.0) (c.in_err-apply_update.ensures other))

pub loop-one-preserved : goal.loop-one-preserved
loop-one-preserved c =
    let t = term c.loop-one.tree in
    let u = c.one-item.result in
    let k = c.loop-one.one-index in
    sym (ap (λ (us : List Used). apply_updates t (updates us)) (here c.args.used.now k u c.loop-one-test.true c.one-item.is)
    ∙ updates_more t u (drop (k + 1) c.args.used.now) (term c.apply_update.new.tree) c.in_ok-apply_update.ensures) ∙ c.loop-one.invariant

pub returns : goal.returns
returns c =
    let t = term c.loop-one.tree in
    sym c.loop-one.invariant ∙ ap (λ (us : List Used). apply_updates t (updates us)) (over c.args.used.now c.loop-one.one-index c.loop-one-test.false) ∙ updates_end t
