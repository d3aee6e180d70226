use Rattle.std.proofs.Common.{◌∙◌}
use Rattle.mls_tree.proofs.Indexing.{filled_without}
use Rattle.mls_tree.proofs.key_indexes.KeyIndexes.enter.Goals as goal

pub returns : goal.returns
returns c = λ b fills is. record {
  encryption = c.enter.ensures.kind ∙ is.encryption;
  signature = c.enter-2.ensures.kind ∙ is.signature;
  keys = c.enter.ensures.entered b c.args.cells.now.nodes (filled_without _ _ _ _ fills) is.keys;
  clients = c.enter-2.ensures.entered b c.args.cells.now.nodes (filled_without _ _ _ _ fills) is.clients;
}
