use Rattle.std.proofs.Common.{ap, ◌∙◌, get_or}
use Rattle.std.specs.Int.{bit_at}
use Rattle.aes128gcm.proofs.NetLemmas.{bit_at-transpose_words}
use Rattle.aes128gcm.proofs.slices.transpose.Goals as goal

pub returns : goal.returns
returns c k i hk h = ap (λ z. bit_at (get_or z k 0) i) c.transpose_words.ensures ∙ bit_at-transpose_words c.args.q k i hk h
