use Rattle.mls_tree.proofs.Checked.{size_fits}
use Rattle.mls_tree.proofs.checking.check.Goals as goal

pub are_all_signed-requires-clause-fits : goal.are_all_signed-requires-clause-fits
are_all_signed-requires-clause-fits g c = size_fits c.args.height c.args.cells.now.nodes c.requires.stands c.requires.low

pub are_all_capable-requires-clause-fits : goal.are_all_capable-requires-clause-fits
are_all_capable-requires-clause-fits g c = size_fits c.args.height c.args.cells.now.nodes c.requires.stands c.requires.low
