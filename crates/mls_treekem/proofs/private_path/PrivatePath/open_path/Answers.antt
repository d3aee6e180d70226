use Rattle.std.proofs.lemmas.Result.{err_from_is_err_and}
use Rattle.std.proofs.Common.{Ok, length, reverse, sym, ◌∙◌, ap, arith}
use Rattle.std.proofs.lemmas.List.{length-reverse}
use Rattle.mls_treekem_model.specs.Make.{Climb}
use Rattle.mls_tree_model.specs.Term.{height}
use Rattle.mls_tree.specs.Tree.{term}
use Rattle.mls_tree.proofs.Perfect.{perfect}
use Rattle.mls_treekem.specs.Climbing.{with_own}
use Rattle.mls_treekem.proofs.Followed.{way_read}
use Rattle.mls_treekem.proofs.Opening.{above_low, opened_is}
use Rattle.mls_treekem.proofs.private_path.PrivatePath.open_path.Goals as goal

pub invariant_of-self : goal.invariant_of-self
invariant_of-self g c =
    let w = way_read _ _ _ _ c.in_ok-places.ensures c.deref.ensures.value in
    let low = above_low g.S.Suite.crypto c.args.context.now c.args.added.now (term c.args.tree.now) c.args.committer c.deref.result.now c.args.self.now (reverse c.args.path.now) c.in_ok-climb.climb w c.in_ok-climb.ensures in
    let long = ap (λ (m : Climb). length m.keys) c.climb.view_is in
    (omega (arith, low, long, length-reverse c.climb.inside.above.items), c.self.invariant.1)

pub returns-clause-answer : goal.returns-clause-answer
returns-clause-answer g c =
    let w = way_read _ _ _ _ c.in_ok-places.ensures c.deref.ensures.value in
    sym (opened_is g.S.Suite.crypto c.args.context.now c.args.added.now (term c.args.tree.now) (height (term c.args.tree.now)) c.args.committer c.deref.result.now c.args.self.now c.args.path.now (perfect c.args.tree.now) w)
    ∙ c.in_ok-climb.ensures
    ∙ ap (λ o. Ok (with_own o c.in_ok-climb.climb)) (sym (ap (λ p. p.own) c.self.view_is))
    ∙ ap (λ m. Ok (with_own c.self.inside.own m)) (sym c.climb.view_is)

pub returns-in_err-climb-clause-answer : goal.returns-in_err-climb-clause-answer
returns-in_err-climb-clause-answer g c =
    let p = err_from_is_err_and c.from_residual-in_err-climb.result c.from_residual-in_err-climb.ensures.1 in
    rw (p.1, p.2) (λ ne.
    let w = way_read _ _ _ _ c.in_ok-places.ensures c.deref.ensures.value in
    sym (opened_is g.S.Suite.crypto c.args.context.now c.args.added.now (term c.args.tree.now) (height (term c.args.tree.now)) c.args.committer c.deref.result.now c.args.self.now c.args.path.now (perfect c.args.tree.now) w)
    ∙ c.in_err-climb.ensures ne)
