use Rattle.std.proofs.Common.{◌+◌, drop, sym, ap, ◌∙◌}
use Rattle.std.proofs.lemmas.Result.{err_from_is_err_and}
use Rattle.mls_tree.specs.Tree.{term}
use Rattle.mls_tree.specs.Faults.{number_of as number_of_tree}
use Rattle.mls_model.specs.Commit.{apply_removes}
use Rattle.mls_public_group.proofs.Rest.{here_number, over}
use Rattle.mls_public_group.proofs.Folding.{removes_more, removes_fail, removes_end}
use Rattle.mls_public_group.proofs.proposal_list.apply_removes.Goals as goal

pub returns-in_err-remove : goal.returns-in_err-remove
returns-in_err-remove c =
    let p = err_from_is_err_and c.from_residual.result c.from_residual.ensures.1 in
    let t = term c.loop-leaf.tree in
    let k = c.loop-leaf.leaf-index in
    rw (p.1, p.2) (λ other. sym c.loop-leaf.invariant ∙ ap (apply_removes t) (here_number c.args.leaves.now k c.loop-leaf-test.true)
    ∙ removes_fail t _ (drop (k + 1) c.args.leaves.now) (number_of_tree c.in_err-remove.field-0.0) (c.in_err-remove.ensures.answer.1 other))

pub loop-leaf-preserved : goal.loop-leaf-preserved
loop-leaf-preserved c =
    let t = term c.loop-leaf.tree in
    let k = c.loop-leaf.leaf-index in
    sym (ap (apply_removes t) (here_number c.args.leaves.now k c.loop-leaf-test.true)
    ∙ removes_more t _ (drop (k + 1) c.args.leaves.now) (term c.remove.new.self) c.in_ok-remove.ensures.answer) ∙ c.loop-leaf.invariant

pub returns : goal.returns
returns c =
    let t = term c.loop-leaf.tree in
    sym c.loop-leaf.invariant ∙ ap (apply_removes t) (over c.args.leaves.now c.loop-leaf.leaf-index c.loop-leaf-test.false) ∙ removes_end t
