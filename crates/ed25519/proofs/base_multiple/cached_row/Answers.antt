use Rattle.std.proofs.Common.{◌∙◌}
use Rattle.curve25519.proofs.Field25519.{residue-one}
use Rattle.ed25519.proofs.Addition.{cached_row}
use Rattle.ed25519.proofs.base_multiple.cached_row.Goals as goal

pub returns : goal.returns
returns c = λ q row. cached_row q _ _ _ _ _ _ _ c.from_words.ensures c.from_words-2.ensures (c.small.ensures ∙ residue-one) c.from_words-3.ensures row.0 row.1 row.2
