use Rattle.mls_tree.proofs.CellEdits.{put_fits, leaf_put, on_ok}
use Rattle.mls_tree.proofs.edits.put.Goals as goal

pub put-requires : goal.put-requires
put-requires c = put_fits c.args.height c.args.i c.args.cells.now _ c.requires.stands c.args.leaf (rw c.of.ensures at c.in_ok-changes.ensures)

pub returns-clause-ok : goal.returns-clause-ok
returns-clause-ok c =
    on_ok c.put.result _ _ (λ puts. leaf_put c.args.height c.args.i c.args.cells.now _ c.requires.stands _ puts c.requires.long c.args.leaf (rw c.of.ensures at c.in_ok-changes.ensures)) c.put.ensures.ok
