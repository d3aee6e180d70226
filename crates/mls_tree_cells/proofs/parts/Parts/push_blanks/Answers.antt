use Rattle.std.proofs.Common.{ℕ}
use Rattle.mls_tree_cells.specs.Rows.{AddsBlanks}
use Rattle.mls_tree_cells.proofs.CellLaws.{no_blanks, one_blank, blanks_stay}
use Rattle.mls_tree_cells.proofs.OpenLaws.{on_err}
use Rattle.mls_tree_cells.proofs.parts.Parts.push_blanks.Goals as goal

pub loop-init : goal.loop-init
loop-init c = no_blanks c.args.self.now

pub loop-preserved : goal.loop-preserved
loop-preserved c = one_blank c.loop.counter c.args.self.now.cells c.loop.self.cells c.push.new.self.cells c.loop.invariant c.blank.result c.blank.ensures c.in_ok-push.ensures.ok

pub returns-in_err-push-clause-err : goal.returns-in_err-push-clause-err
returns-in_err-push-clause-err c =
    let some : (n : ℕ) × AddsBlanks n c.args.self.now.cells c.push.new.self.cells = (c.loop.counter, blanks_stay c.loop.counter c.args.self.now.cells c.loop.self.cells c.push.new.self.cells c.loop.invariant c.in_err-push.ensures.err) in
    on_err c.from_residual.result some
