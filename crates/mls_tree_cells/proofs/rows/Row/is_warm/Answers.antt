use Rattle.std.proofs.Common.{◌≡◌, true, not, is_some, ◌∙◌, ap, subst, take_all}
use Rattle.std.specs.List.{All}
use Rattle.std.proofs.lemmas.List.Elements.{All-more}
use Rattle.mls_tree_cells.specs.Cells.{CellList}
use Rattle.mls_tree_cells.proofs.rows.Row.is_warm.Goals as goal

pub loop-hash-preserved : goal.loop-hash-preserved
loop-hash-preserved c =
    All-more (λ h. is_some h ≡ true) c.deref-hash-items.result.now c.loop-hash.hash-index _ c.loop-hash-test.true c.loop-hash.invariant
    (c.is_none.ensures ∙ ap not c.if-is_none.false)

pub returns : goal.returns
returns c =
    subst (All (λ h. is_some h ≡ true))
    (take_all c.loop-hash.hash-index c.deref-hash-items.result.now c.loop-hash-test.false
    ∙ c.deref-hash-items.ensures.value
    ∙ ap (λ (r : CellList). r.hashes) c.self.view_is)
    c.loop-hash.invariant
