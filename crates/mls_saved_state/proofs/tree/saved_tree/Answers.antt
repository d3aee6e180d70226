use Rattle.std.proofs.Common.{sym, ap₂, ◌∙◌}
use Rattle.std.specs.Str.{bytes_eq}
use Rattle.std.proofs.lemmas.Bool.{not-false}
use Rattle.std.proofs.lemmas.Result.{err_from_is_err_and}
use Rattle.mls_tree.specs.Tree.{term}
use Rattle.mls_saved_state.proofs.SavedTrees.{tree_refused}
use Rattle.mls_saved_state.proofs.tree.saved_tree.Goals as goal

pub returns-in_err-check-clause-answer : goal.returns-in_err-check-clause-answer
returns-in_err-check-clause-answer g c =
    let p = err_from_is_err_and c.from_residual-in_err-check.result c.from_residual-in_err-check.ensures.1 in
    let same = sym (ap₂ bytes_eq c.as_slice.ensures (c.as_slice-2.ensures ∙ c.tree_hash.ensures.value)) ∙ not-false _ (sym c.if-ne.ensures) in
    rw (p.1, p.2) (λ other. tree_refused g.S.Suite.crypto c.args.context.now c.args.nodes (term c.in_ok-tree.tree) _ c.in_ok-tree.ensures.answer same (rw (c.as_slice-3.ensures, c.tree_hash.ensures.same) at c.in_err-check.ensures.answer other))
