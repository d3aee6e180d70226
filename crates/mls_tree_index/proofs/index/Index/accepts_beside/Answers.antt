use Rattle.std.proofs.Common.{◌∷◌, ◌++◌, refl, ◌∙◌, ap}
use Rattle.mls_tree_model.specs.Sets.{same_bytes, is_distinct}
use Rattle.mls_tree_index.specs.Keys.{keys_of}
use Rattle.mls_tree_index.specs.BlankedCells.{cells_without}
use Rattle.mls_tree_index.proofs.ClearedLaws.{cleared_part}
use Rattle.mls_tree_index.proofs.StepLaws.{same_index}
use Rattle.mls_tree_index.proofs.index.Index.accepts_beside.Goals as goal

pub returns-clause-answer : goal.returns-clause-answer
returns-clause-answer c = λ is.
    let cells = c.args.cells.now.nodes in
    let places = c.args.places.now in
    let same = c.in_ok-rest.ensures.cases in
    let more = c.reserve.ensures.same in
    let left = c.leave_all.ensures.left cells (record { wide = refl; part = λ x some. refl; here = λ x h. refl }) (same_index cells c.in_ok-rest.rest c.reserve.new.self more (same_index cells c.args.self.now c.in_ok-rest.rest same is)) in
    c.accepts.ensures (cells_without 0 places cells) (cleared_part c.leave_all.new.self.kind places cells) left
    ∙ ap (λ k. is_distinct same_bytes (c.args.key.now ∷ (c.args.keys.now ++ keys_of k (cells_without 0 places cells)))) (c.leave_all.ensures.kind ∙ more.kind ∙ same.kind)
