use Rattle.std.proofs.Common.{◌^◌, sym, ap₂, ◌∙◌}
use Rattle.std.specs.Str.{bytes_eq}
use Rattle.std.proofs.lemmas.Bool.{not-false}
use Rattle.std.proofs.lemmas.Result.{err_from_is_err_and}
use Rattle.mls_tree.specs.Tree.{term}
use Rattle.mls_public_group.proofs.Lengths.{short_context}
use Rattle.mls_join.proofs.Lengths.{parts_below}
use Rattle.mls_join.proofs.SentTree.{tree_refused}
use Rattle.mls_join.proofs.tree.joined_tree.Goals as goal

pub tree_of-requires : goal.tree_of-requires
tree_of-requires g c = (parts_below (2 ^ 27) c.args.info.now c.requires).nodes c.in-Some.sent c.in-Some.is

pub check-requires-clause-group : goal.check-requires-clause-group
check-requires-clause-group g c =
    let short = short_context c.args.info.now.group_context (parts_below (2 ^ 27) c.args.info.now c.requires).context in
    rw c.as_slice-3.ensures short.group_id

pub returns-in_err-check-clause-answer : goal.returns-in_err-check-clause-answer
returns-in_err-check-clause-answer g c =
    let p = err_from_is_err_and c.from_residual-in_err-check.result c.from_residual-in_err-check.ensures.1 in
    let same = sym (ap₂ bytes_eq c.as_slice.ensures (c.as_slice-2.ensures ∙ c.tree_hash.ensures.value)) ∙ not-false _ (sym c.if-ne.ensures) in
    rw (p.1, p.2) (λ other. tree_refused g.S.Suite.crypto c.args.info.now _ (term c.in_ok-tree.tree) _ c.in-Some.is c.in_ok-tree.ensures.answer same (rw (c.as_slice-3.ensures, c.tree_hash.ensures.same) at c.in_err-check.ensures.answer other))
