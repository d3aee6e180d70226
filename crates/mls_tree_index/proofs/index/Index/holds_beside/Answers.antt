use Rattle.std.proofs.Common.{not, sym, ◌∙◌, ap, inl, inr}
use Rattle.std.proofs.lemmas.Bool.{cases_Bool}
use Rattle.mls_tree_model.specs.Sets.{has}
use Rattle.mls_tree_index.proofs.BesideLaws.{beside_none, beside_on, beside_out, has_searched}
use Rattle.mls_tree_index.proofs.index.Index.holds_beside.Goals as goal

pub returns-in-Some : goal.returns-in-Some
returns-in-Some c = λ is distinct.
    let kind = c.args.self.now.kind in
    let cells = c.args.cells.now.nodes in
    let places = c.args.places.now in
    let here = c.in-Some.ensures is in
    let on = c.contains.ensures.value ∙ has_searched places c.in-Some.x in
    elim (cases_Bool (has places c.in-Some.x)) [
      | inl there ↦ ap not (on ∙ there) ∙ beside_on kind places cells c.args.key.now c.in-Some.x distinct here there
      | inr beside ↦ ap not (on ∙ beside) ∙ beside_out kind places cells c.args.key.now c.in-Some.x here beside
    ]

pub returns-in-None : goal.returns-in-None
returns-in-None c = λ is distinct. beside_none c.args.self.now.kind c.args.places.now c.args.cells.now.nodes c.args.key.now (sym (c.in-None.ensures is))
