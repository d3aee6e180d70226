use Rattle.std.proofs.Common.{◌≡◌}
use Rattle.mls_treekem_model.specs.Chain.{chain, path_secrets}
use Rattle.mls_treekem.specs.Secrets.{ArePairsOf}
use Rattle.mls_treekem.proofs.secrets.PathSecrets.new.Given as goal

abbrev pub invariant-loop : goal.invariant-loop
invariant-loop g l = record {
  secrets : l.secrets.items ≡ path_secrets l.start l.counter;
  pairs : ArePairsOf g.S.Suite.crypto (path_secrets l.start l.counter) l.pairs.items;
  secret : l.secret ≡ chain l.start l.counter;
}
