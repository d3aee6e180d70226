use Rattle.std.proofs.Common.{◌≡◌}
use Rattle.mls_tree.proofs.Fitting.{keys_pass}
use Rattle.mls_tree.proofs.checking.are_all_fit.Given as goal

abbrev pub invariant-loop-x : goal.invariant-loop-x
invariant-loop-x g l = keys_pass g.S.Suite.crypto.key_ok l.cells.nodes l.x ≡ keys_pass g.S.Suite.crypto.key_ok l.cells.nodes 0
