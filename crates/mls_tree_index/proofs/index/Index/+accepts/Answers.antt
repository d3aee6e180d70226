use Rattle.std.proofs.Common.{◌++◌, sym, ◌∙◌, ap}
use Rattle.std.proofs.lemmas.List.{nil_from_length}
use Rattle.mls_tree_model.specs.Sets.{same_bytes, is_distinct}
use Rattle.mls_tree_index.specs.Keys.{keys_of, is_held}
use Rattle.mls_tree_index.proofs.DistinctLaws.{searched, both_new, first_again, others_have}
use Rattle.mls_tree_index.proofs.index.Index.+accepts.Goals as goal
use Rattle.mls_tree_index.proofs.index.Index.+accepts.Goals.{then-contains-via-then-contains, then-contains-via-else-contains+then-holds}

pub returns-then-contains : goal.returns-then-contains
returns-then-contains t c = λ cells part is.
    let k = c.args.key.now in
    let keys = c.args.keys.now in
    let held = keys_of c.args.self.now.kind cells in
    elim c.then-contains.branch [
      | then-contains-via-then-contains w ↦ first_again k keys held (sym w.if-contains.true ∙ c.contains.ensures.value ∙ searched k keys)
      | then-contains-via-else-contains+then-holds w ↦ others_have k keys held (sym w.if-holds.true ∙ w.holds.ensures cells part is.entries ∙ ap (is_held c.args.self.now.kind cells) w.as_slice.ensures)
    ]

pub returns-in-Some : goal.returns-in-Some
returns-in-Some t c = λ cells part is.
    let k = c.args.key.now in
    let keys = c.args.keys.now in
    let held = keys_of c.args.self.now.kind cells in
    c.accepts.ensures cells part is
    ∙ ap (λ ks. is_distinct same_bytes (ks ++ held)) (sym c.in-Some.ensures.cases.0)
    ∙ both_new k keys held (sym c.if-contains.false ∙ c.contains.ensures.value ∙ searched k keys) (sym c.if-holds.false ∙ c.holds.ensures cells part is.entries ∙ ap (is_held c.args.self.now.kind cells) c.as_slice.ensures)

pub returns-in-None : goal.returns-in-None
returns-in-None t c = λ cells part is.
    let k = c.args.key.now in
    let keys = c.args.keys.now in
    let held = keys_of c.args.self.now.kind cells in
    c.are_distinct.ensures cells is
    ∙ ap (λ ks. is_distinct same_bytes (ks ++ held)) (sym (nil_from_length keys c.in-None.ensures.cases))
    ∙ both_new k keys held (sym c.if-contains.false ∙ c.contains.ensures.value ∙ searched k keys) (sym c.if-holds.false ∙ c.holds.ensures cells part is.entries ∙ ap (is_held c.args.self.now.kind cells) c.as_slice.ensures)
