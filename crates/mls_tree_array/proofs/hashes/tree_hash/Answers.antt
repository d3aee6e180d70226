use Rattle.std.proofs.Common.{◌∙◌, ap}
use Rattle.mls_tree_hash.specs.Counter.{counted}
use Rattle.mls_tree_array.proofs.WholeHashes.{whole_long, whole_keeps, whole_filled, whole_counted}
use Rattle.mls_tree_array.proofs.hashes.tree_hash.Goals as goal

pub fill_hashes-requires-clause-long : goal.fill_hashes-requires-clause-long
fill_hashes-requires-clause-long c = whole_long c.args.height c.args.cells.now c.requires.shape c.requires.keeps

pub fill_hashes-requires-clause-keeps : goal.fill_hashes-requires-clause-keeps
fill_hashes-requires-clause-keeps c = whole_keeps c.args.height c.args.cells.now c.requires.shape c.requires.keeps

pub returns-clause-all : goal.returns-clause-all
returns-clause-all c = c.fill_hashes.ensures.all ∙ whole_filled c.args.height c.args.cells.now c.requires.shape c.requires.keeps

pub returns-clause-counted : goal.returns-clause-counted
returns-clause-counted c =
    c.fill_hashes.ensures.counted ∙ ap (counted c.args.done.now) (whole_counted c.args.height c.args.cells.now c.requires.shape c.requires.keeps)
