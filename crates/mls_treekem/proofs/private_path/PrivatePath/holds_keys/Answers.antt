use Rattle.std.proofs.Common.{◌∙◌, ap, sym, true, false, length}
use Rattle.std.proofs.lemmas.List.{length-reverse}
use Rattle.mls_treekem.proofs.Holding.{too_many, as_along}
use Rattle.mls_treekem.proofs.Place.{zeros_low, zeros_fit}
use Rattle.mls_treekem.proofs.private_path.PrivatePath.holds_keys.Goals as goal

pub holds_below-requires-clause-low : goal.holds_below-requires-clause-low
holds_below-requires-clause-low g c = zeros_low c.args.tree.now _ c.leaf_count-height.ensures c.leaf_count-height.type_inv

pub holds_below-requires-clause-fits : goal.holds_below-requires-clause-fits
holds_below-requires-clause-fits g c = zeros_fit c.args.tree.now _ c.leaf_count-height.ensures c.leaf_count-height.type_inv

pub returns-then-above-height : goal.returns-then-above-height
returns-then-above-height g c =
    too_many g.S.Suite.crypto c.args.tree.now _ c.leaf_count-height.ensures c.leaf_count-height.type_inv c.args.self.now _
    (ap length c.above.ensures.keys ∙ length-reverse c.args.self.now.above)
    c.if-above-height.true

pub returns-then-not-held : goal.returns-then-not-held
returns-then-not-held g c =
    as_along g.S.Suite.crypto c.args.tree.now _ c.leaf_count-height.ensures c.leaf_count-height.type_inv c.args.self.now _
    (ap length c.above.ensures.keys ∙ length-reverse c.args.self.now.above)
    c.if-above-height.false false (sym c.if-not-held.true ∙ c.in_ok-held.ensures)

pub returns : goal.returns
returns g c =
    as_along g.S.Suite.crypto c.args.tree.now _ c.leaf_count-height.ensures c.leaf_count-height.type_inv c.args.self.now _
    (ap length c.above.ensures.keys ∙ length-reverse c.args.self.now.above)
    c.if-above-height.false true (sym c.if-not-held.false ∙ c.in_ok-held.ensures)
