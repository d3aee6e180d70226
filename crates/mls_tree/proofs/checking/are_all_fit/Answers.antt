use Rattle.std.proofs.Common.{None, arith, sym, ap, ◌∙◌}
use Rattle.std.specs.List.{list_all}
use Rattle.mls_tree_array.specs.CellKeys.{cell_keys}
use Rattle.mls_tree.proofs.Fitting.{key_fails, key_passes, keys_end, fit_told}
use Rattle.mls_tree.proofs.checking.are_all_fit.Goals as goal

pub returns-then-not-is_fit_or_blank : goal.returns-then-not-is_fit_or_blank
returns-then-not-is_fit_or_blank g c =
    λ group.
    sym (sym (fit_told g.S.Suite.crypto group c.args.height c.args.cells.now.nodes c.requires) ∙ sym c.loop-x.invariant
    ∙ key_fails g.S.Suite.crypto.key_ok c.args.cells.now.nodes c.loop-x.x None (omega arith) (ap (λ x. list_all g.S.Suite.crypto.key_ok (cell_keys x)) (sym c.slot.ensures) ∙ sym c.is_fit_or_blank.ensures ∙ c.if-not-is_fit_or_blank.true))

pub loop-x-preserved : goal.loop-x-preserved
loop-x-preserved g c =
    key_passes g.S.Suite.crypto.key_ok c.args.cells.now.nodes c.loop-x.x None (omega arith) (ap (λ x. list_all g.S.Suite.crypto.key_ok (cell_keys x)) (sym c.slot.ensures) ∙ sym c.is_fit_or_blank.ensures ∙ c.if-not-is_fit_or_blank.false)
    ∙ c.loop-x.invariant

pub returns : goal.returns
returns g c =
    λ group.
    sym (sym (fit_told g.S.Suite.crypto group c.args.height c.args.cells.now.nodes c.requires) ∙ sym c.loop-x.invariant
    ∙ keys_end g.S.Suite.crypto.key_ok c.args.cells.now.nodes c.loop-x.x (omega arith))
