use Rattle.std.proofs.lemmas.Result.{err_from_is_err_and}
use Rattle.std.proofs.Common.{rules, map, reverse}
use Rattle.std.proofs.lemmas.List.{length-map, nil_from_length}
use Rattle.mls_tree.specs.Tree.{term}
use Rattle.mls_treekem_model.specs.Keys.{all_keys}
use Rattle.mls_treekem.specs.Place.{step_of}
use Rattle.mls_treekem.proofs.Opening.{along_none, first_placed, others_placed, is_beside_of, beside_ok, beside_err, other_ok, other_err}
use Rattle.mls_treekem.proofs.private_path.PrivatePath.+climb_along.Goals as goal

pub returns-in_default : goal.returns-in_default
returns-in_default g t c =
    λ _. along_none g.S.Suite.crypto c.args.context.now c.args.added.now (term c.args.tree.now) c.args.places.now c.args.self.now.leaf (all_keys c.args.self.now) (reverse c.args.path.now) (nil_from_length _ c.in_default.ensures.cases)

pub open_at_ancestor-requires-clause-placed : goal.open_at_ancestor-requires-clause-placed
open_at_ancestor-requires-clause-placed g t c = first_placed _ _ _ _ c.in-Some.ensures.cases.0 c.requires.placed

pub returns-then-is_beside : goal.returns-then-is_beside
returns-then-is_beside g t c =
    beside_ok g.S.Suite.crypto c.args.context.now c.args.added.now (term c.args.tree.now) c.in-Some.place.now c.in-Some.below.now c.args.places.now c.in-Some.ensures.cases.0
    (first_placed _ _ _ _ c.in-Some.ensures.cases.0 c.requires.placed)
    c.args.self.now c.args.path.now c.is_filtered-is_filtered.result c.is_filtered-is_filtered.ensures c.is_beside.result (is_beside_of _ _ _ _ _ c.leaf.ensures c.is_beside.ensures)
    c.in_ok-climb.climb _ c.if-is_beside.true
    (c.in_ok-climb.ensures (map (step_of (term c.args.tree.now)) c.in-Some.below.now) (length-map c.in-Some.below.now (step_of (term c.args.tree.now)))) c.climb_past_parent.ensures

pub returns-in_err-climb : goal.returns-in_err-climb
returns-in_err-climb g t c =
    let p = err_from_is_err_and c.from_residual.result c.from_residual.ensures.1 in
    rw (p.1, p.2) (λ ne.
    beside_err g.S.Suite.crypto c.args.context.now c.args.added.now (term c.args.tree.now) c.in-Some.place.now c.in-Some.below.now c.args.places.now c.in-Some.ensures.cases.0
    (first_placed _ _ _ _ c.in-Some.ensures.cases.0 c.requires.placed)
    c.args.self.now c.args.path.now c.is_filtered-is_filtered.result c.is_filtered-is_filtered.ensures c.is_beside.result (is_beside_of _ _ _ _ _ c.leaf.ensures c.is_beside.ensures)
    _ c.if-is_beside.true
    (c.in_err-climb.ensures (map (step_of (term c.args.tree.now)) c.in-Some.below.now) (length-map c.in-Some.below.now (step_of (term c.args.tree.now))) ne))

pub climb_along-requires : goal.climb_along-requires
climb_along-requires g t c κs within = (search rules, (search rules, (search rules, (search rules, others_placed _ _ _ _ c.in-Some.ensures.cases.0 c.requires.placed))))

pub returns : goal.returns
returns g t c =
    other_ok g.S.Suite.crypto c.args.context.now c.args.added.now (term c.args.tree.now) c.in-Some.place.now c.in-Some.below.now c.args.places.now c.in-Some.ensures.cases.0
    (first_placed _ _ _ _ c.in-Some.ensures.cases.0 c.requires.placed)
    c.args.self.now c.args.path.now c.is_filtered-is_filtered.result c.is_filtered-is_filtered.ensures c.is_beside.result (is_beside_of _ _ _ _ _ c.leaf.ensures c.is_beside.ensures)
    c.nodes_below-rest.result.now c.nodes_below-rest.ensures c.in_ok-climb-2.climb _ c.if-is_beside.false c.in_ok-climb-2.ensures c.climb_past_parent-2.ensures

pub returns-in_err-climb-2 : goal.returns-in_err-climb-2
returns-in_err-climb-2 g t c =
    let p = err_from_is_err_and c.from_residual-in_err-climb-2.result c.from_residual-in_err-climb-2.ensures.1 in
    rw (p.1, p.2) (λ ne.
    other_err g.S.Suite.crypto c.args.context.now c.args.added.now (term c.args.tree.now) c.in-Some.place.now c.in-Some.below.now c.args.places.now c.in-Some.ensures.cases.0
    (first_placed _ _ _ _ c.in-Some.ensures.cases.0 c.requires.placed)
    c.args.self.now c.args.path.now c.is_filtered-is_filtered.result c.is_filtered-is_filtered.ensures c.is_beside.result (is_beside_of _ _ _ _ _ c.leaf.ensures c.is_beside.ensures)
    c.nodes_below-rest.result.now c.nodes_below-rest.ensures _ c.if-is_beside.false (c.in_err-climb-2.ensures ne))
