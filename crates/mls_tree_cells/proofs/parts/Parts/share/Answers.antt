use Rattle.std.proofs.Common.{List, sym, ◌∙◌, ap, subst}
use Rattle.mls_tree_cells.specs.Cells.{CellList}
use Rattle.mls_tree_cells.specs.Parts.{AreParts, PartList, all_cells}
use Rattle.mls_tree_cells.proofs.parts.Parts.share.Goals as goal

pub invariant_of-self : goal.invariant_of-self
invariant_of-self c =
    subst (λ (rs : List CellList). AreParts rs c.self.inside.tops) (sym c.share_all.ensures) c.self.invariant

pub returns : goal.returns
returns c =
    ap (λ (rs : List CellList). all_cells rs c.self.inside.tops) c.share_all.ensures
    ∙ ap (λ (p : PartList). p.cells) c.self.view_is
