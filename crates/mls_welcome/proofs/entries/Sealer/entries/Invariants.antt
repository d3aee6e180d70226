use Rattle.std.proofs.Common.{◌≡◌, ◌+◌}
use Rattle.mls_treekem_model.specs.Seeds.{seal_seed}
use Rattle.mls_welcome.proofs.SealedEntries.{EntriesLeft}
use Rattle.mls_welcome.proofs.entries.Sealer.entries.Given as goal

abbrev pub invariant-loop-joiner : goal.invariant-loop-joiner
invariant-loop-joiner g l = record {
  left : EntriesLeft g.S.Suite.crypto l.encrypted_info l.self.joiner_secret.now (seal_seed l.self.seed.now) l.joiners l.first l.entries.items l.number l.joiner-index;
  number : l.number ≡ l.first + l.joiner-index;
}
