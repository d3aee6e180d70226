use Rattle.ed25519.proofs.Verified.{of_halves}
use Rattle.std.proofs.Common.{◌∙◌}
use Rattle.ed25519.proofs.signing.verify.Goals as goal

pub returns-then-signature-eq64 : goal.returns-then-signature-eq64
returns-then-signature-eq64 c =
    of_halves c.args.public_key.now c.args.message.now c.args.signature.now c.copy_half.result c.copy_half-then-signature-eq64.result c.copy_half-then-signature-eq64-2.result c.verify_halves.result
    c.if-public_key-eq32.true c.if-signature-eq64.true c.copy_half.ensures (c.copy_half-then-signature-eq64.ensures ∙ c.split_at.ensures.front) (c.copy_half-then-signature-eq64-2.ensures ∙ c.split_at.ensures.back)
    c.verify_halves.ensures
