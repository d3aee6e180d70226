use Rattle.std.proofs.lemmas.Result.{err_from_is_err_and}
use Rattle.std.proofs.Common.{rules}
use Rattle.std.proofs.lemmas.List.{nil_from_length}
use Rattle.mls_tree.specs.Tree.{term}
use Rattle.mls_treekem.specs.Faults.{number_of}
use Rattle.mls_treekem.proofs.Opening.{others_placed}
use Rattle.mls_treekem.proofs.Taking.{take_none, from_here, from_below, not_here, not_below}
use Rattle.mls_treekem.proofs.take.+climb_along.Goals as goal

pub returns-in_default : goal.returns-in_default
returns-in_default g t c = λ _. take_none g.S.Suite.crypto (term c.args.tree.now) c.args.joiner c.args.secret.now c.args.places.now (nil_from_length _ c.in_default.ensures.cases)

pub climb_along-requires : goal.climb_along-requires
climb_along-requires g t c κs within = (search rules, (search rules, others_placed (term c.args.tree.now) c.in-Some.place.now c.in-Some.lower.now c.args.places.now c.in-Some.ensures.cases.0 c.requires))

pub returns-then-is_beside : goal.returns-then-is_beside
returns-then-is_beside g t c =
    from_here g.S.Suite.crypto (term c.args.tree.now) c.args.joiner c.args.secret.now c.in-Some.place.now c.in-Some.lower.now c.args.places.now c.in-Some.ensures.cases.0 c.requires c.is_beside.result c.is_beside.ensures
    c.if-is_beside.true c.in_ok-climb.climb c.climb_past_parent.result c.in_ok-climb.ensures c.climb_past_parent.ensures

pub returns-in_err-climb : goal.returns-in_err-climb
returns-in_err-climb g t c =
    let p = err_from_is_err_and c.from_residual.result c.from_residual.ensures.1 in
    rw (p.1, p.2) (λ memory.
    not_here g.S.Suite.crypto (term c.args.tree.now) c.args.joiner c.args.secret.now c.in-Some.place.now c.in-Some.lower.now c.args.places.now c.in-Some.ensures.cases.0 c.requires c.is_beside.result c.is_beside.ensures
    c.if-is_beside.true (number_of c.in_err-climb.field-0.0) (c.in_err-climb.ensures memory))

pub returns : goal.returns
returns g t c =
    from_below g.S.Suite.crypto (term c.args.tree.now) c.args.joiner c.args.secret.now c.in-Some.place.now c.in-Some.lower.now c.args.places.now c.in-Some.ensures.cases.0 c.requires c.is_beside.result c.is_beside.ensures
    c.if-is_beside.false c.in_ok-climb-2.climb c.climb_past_parent-2.result c.in_ok-climb-2.ensures c.climb_past_parent-2.ensures

pub returns-in_err-climb-2 : goal.returns-in_err-climb-2
returns-in_err-climb-2 g t c =
    let p = err_from_is_err_and c.from_residual-in_err-climb-2.result c.from_residual-in_err-climb-2.ensures.1 in
    rw (p.1, p.2) (λ memory.
    not_below g.S.Suite.crypto (term c.args.tree.now) c.args.joiner c.args.secret.now c.in-Some.place.now c.in-Some.lower.now c.args.places.now c.in-Some.ensures.cases.0 c.requires c.is_beside.result c.is_beside.ensures
    c.if-is_beside.false (number_of c.in_err-climb-2.field-0.0) (c.in_err-climb-2.ensures memory))
