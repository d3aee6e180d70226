use Rattle.std.proofs.Common.{◌≡◌, min, length, arith}
use Rattle.std.proofs.lemmas.List.{take_min}
use Rattle.mls_private_message.specs.Keys.{ciphertext_sample}
use Rattle.mls_private_message.proofs.keys.ciphertext_sample.Goals as goal

pub returns-clause-sample : goal.returns-clause-sample
unfolding ciphertext_sample
returns-clause-sample c =
    let least : c.min.result ≡ min 32 (length c.args.ciphertext.now) = omega arith in
    rw least (take_min 32 c.args.ciphertext.now)
