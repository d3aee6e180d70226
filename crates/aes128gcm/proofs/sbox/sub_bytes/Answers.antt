use Rattle.std.proofs.Common.{ap, ◌∙◌, rules}
use Rattle.aes128gcm.specs.Lanes.{lane}
use Rattle.aes128gcm.proofs.CircuitLemmas.{lane-sub_words}
use Rattle.aes128gcm.proofs.sbox.sub_bytes.Goals as goal

pub returns : goal.returns
returns c i h = ap (λ z. lane z i) c.sub_words.ensures ∙ lane-sub_words c.args.q i h (search rules)
