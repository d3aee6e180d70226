use Rattle.std.proofs.Common.{◌++◌, sym, ◌∙◌, ap}
use Rattle.std.proofs.lemmas.List.{nil_from_length}
use Rattle.mls_tree_model.specs.Sets.{same_bytes, is_distinct}
use Rattle.mls_tree_index.specs.Keys.{keys_of, is_held}
use Rattle.mls_tree_index.specs.BlankedCells.{cells_without}
use Rattle.mls_tree_index.proofs.DistinctLaws.{searched, both_new, first_again, others_have}
use Rattle.mls_tree_index.proofs.BesideLaws.{cleared_distinct}
use Rattle.mls_tree_index.proofs.index.Index.+accepts_new.Goals as goal
use Rattle.mls_tree_index.proofs.index.Index.+accepts_new.Goals.{then-is_among-via-then-is_among, then-is_among-via-else-is_among+then-holds_beside}

pub returns-then-is_among : goal.returns-then-is_among
returns-then-is_among t c = λ is distinct.
    let k = c.args.key.now in
    let keys = c.args.keys.now in
    let cells = cells_without 0 c.args.places.now c.args.cells.now.nodes in
    let held = keys_of c.args.self.now.kind cells in
    elim c.then-is_among.branch [
      | then-is_among-via-then-is_among w ↦ first_again k keys held (sym w.if-is_among.true ∙ c.is_among.ensures ∙ searched k keys)
      | then-is_among-via-else-is_among+then-holds_beside w ↦ others_have k keys held (sym w.if-holds_beside.true ∙ w.holds_beside.ensures is distinct ∙ ap (is_held c.args.self.now.kind cells) w.as_slice.ensures)
    ]

pub returns-in-Some : goal.returns-in-Some
returns-in-Some t c = λ is distinct.
    let k = c.args.key.now in
    let keys = c.args.keys.now in
    let cells = cells_without 0 c.args.places.now c.args.cells.now.nodes in
    let held = keys_of c.args.self.now.kind cells in
    c.accepts_new.ensures is distinct
    ∙ ap (λ ks. is_distinct same_bytes (ks ++ held)) (sym c.in-Some.ensures.cases.0)
    ∙ both_new k keys held (sym c.if-is_among.false ∙ c.is_among.ensures ∙ searched k keys) (sym c.if-holds_beside.false ∙ c.holds_beside.ensures is distinct ∙ ap (is_held c.args.self.now.kind cells) c.as_slice.ensures)

pub returns-in-None : goal.returns-in-None
returns-in-None t c = λ is distinct.
    let k = c.args.key.now in
    let keys = c.args.keys.now in
    let cells = cells_without 0 c.args.places.now c.args.cells.now.nodes in
    let held = keys_of c.args.self.now.kind cells in
    sym (cleared_distinct c.args.self.now.kind c.args.places.now c.args.cells.now.nodes distinct)
    ∙ ap (λ ks. is_distinct same_bytes (ks ++ held)) (sym (nil_from_length keys c.in-None.ensures.cases))
    ∙ both_new k keys held (sym c.if-is_among.false ∙ c.is_among.ensures ∙ searched k keys) (sym c.if-holds_beside.false ∙ c.holds_beside.ensures is distinct ∙ ap (is_held c.args.self.now.kind cells) c.as_slice.ensures)
