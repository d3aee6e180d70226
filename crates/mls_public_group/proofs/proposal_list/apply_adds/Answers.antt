use Rattle.std.proofs.Common.{◌+◌, drop, List, sym, ap, ◌∙◌}
use Rattle.std.proofs.lemmas.Result.{err_from_is_err_and}
use Rattle.mls_tree.specs.Tree.{term}
use Rattle.mls_model.specs.PublicState.{Used}
use Rattle.mls_model.specs.Proposals.{adds}
use Rattle.mls_model.specs.Commit.{apply_adds}
use Rattle.mls_public_group.specs.ProposalList.{prepend_added}
use Rattle.mls_public_group.specs.Faults.{number_of}
use Rattle.mls_public_group.proofs.Rest.{here, over}
use Rattle.mls_public_group.proofs.Folding.{adds_more, adds_fail, adds_end}
use Rattle.mls_public_group.proofs.proposal_list.apply_adds.Goals as goal

pub returns-in_err-apply_add : goal.returns-in_err-apply_add
returns-in_err-apply_add c =
    let p = err_from_is_err_and c.from_residual.result c.from_residual.ensures.1 in
    let t = term c.loop-one.tree in
    let front = c.loop-one.added.items in
    let u = c.one-item.result in
    let k = c.loop-one.one-index in
    rw (p.1, p.2) (λ other. sym c.loop-one.invariant ∙ ap (λ (us : List Used). prepend_added front (apply_adds t (adds us))) (here c.args.used.now k u c.loop-one-test.true c.one-item.is)
    ∙ adds_fail t front u (drop (k + 1) c.args.used.now) (number_of c.in_err-apply_add.field-0.0) (c.in_err-apply_add.ensures other))

pub loop-one-preserved : goal.loop-one-preserved
loop-one-preserved c =
    let t = term c.loop-one.tree in
    let front = c.loop-one.added.items in
    let u = c.one-item.result in
    let k = c.loop-one.one-index in
    sym (ap (λ (us : List Used). prepend_added front (apply_adds t (adds us))) (here c.args.used.now k u c.loop-one-test.true c.one-item.is)
    ∙ adds_more t front u (drop (k + 1) c.args.used.now) (term c.apply_add.new.tree) c.apply_add.new.added.items c.in_ok-apply_add.ensures) ∙ c.loop-one.invariant

pub returns : goal.returns
returns c =
    let t = term c.loop-one.tree in
    let front = c.loop-one.added.items in
    sym c.loop-one.invariant ∙ ap (λ (us : List Used). prepend_added front (apply_adds t (adds us))) (over c.args.used.now c.loop-one.one-index c.loop-one-test.false) ∙ adds_end t front
