use Rattle.std.proofs.Common.{◌∙◌, ap, subst}
use Rattle.mls_tree_index.specs.Blocks.{joined, place_of}
use Rattle.mls_tree_index.specs.Entries.{numbers_of}
use Rattle.mls_tree_index.specs.Indexes.{Listing}
use Rattle.mls_tree_index.specs.Keys.{key_in}
use Rattle.mls_tree_index.specs.Searches.{IsPlaceOf}
use Rattle.mls_tree_index.proofs.StepLaws.{at_for, held_first, place_for}
use Rattle.mls_tree_index.proofs.index.Index.holds.Goals as goal

pub returns : goal.returns
returns c = λ d part are.
    let s = c.args.self.now in
    let kind = c.self.inside.kind in
    let es = joined c.self.inside.blocks.blocks in
    let cells = c.args.cells.now.nodes in
    let p = place_of c.self.inside.blocks.blocks c.spot_of-spot.result in
    let kinds = ap (λ (t : Listing). t.kind) c.self.view_is in
    let entries = ap (λ (t : Listing). t.entries) c.self.view_is in
    let k = c.args.key.now in
    let place = subst (λ n. IsPlaceOf kind es cells k n p) c.new-entry.ensures.number c.spot_of-spot.ensures.gap in
    let gap = place_for s kind es cells k 0 p kinds entries place (key_in s.kind d) part are in
    at_for s kind es cells k p c.is_key_at.result kinds entries c.is_key_at.ensures (key_in s.kind d) part are
    ∙ held_first s.kind d cells part (numbers_of s.entries) are.numbers k p gap
