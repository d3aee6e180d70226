use Rattle.std.proofs.Common.{ap, ◌∙◌, ◌++◌, List, ℕ}
use Rattle.ed25519.specs.Signatures.{hash_number}
use Rattle.ed25519.proofs.Halves.{rest}
use Rattle.ed25519.proofs.signing.nonce_of.Goals as goal

pub returns : goal.returns
returns c = c.hash_two.ensures ∙ ap (λ (t : List ℕ). hash_number (t ++ c.args.message.now)) (rest c.args.digest.now c.told-digest)
