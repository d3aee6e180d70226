use Rattle.std.proofs.Common.{ap, ap₂, ◌∙◌, ◌≡◌, ◌+◌, ◌*◌, ◌%◌, ◌++◌, take, drop}
use Rattle.std.proofs.Math.Nat.{add-mod-mod}
use Rattle.curve25519.specs.Curve25519.{order}
use Rattle.field25519.specs.Bytes.{encode, joined}
use Rattle.field25519.specs.Scalars.{decode_scalar}
use Rattle.ed25519.specs.Signatures.{hash_number, secret_scalar, nonce, commitment, challenge, answer, public_key, multiple_bytes}
use Rattle.ed25519.proofs.signing.sign.Goals as goal

pub returns : goal.returns
returns c =
    let x = c.args.secret.now in
    let m = c.args.message.now in
    let scalar : joined c.scalar_of-scalar.result ≡ secret_scalar x = c.scalar_of-scalar.ensures ∙ ap (λ t. decode_scalar (take 32 t)) c.digest-digest.ensures in
    let r : joined c.nonce_of-nonce.result ≡ nonce x m = c.nonce_of-nonce.ensures ∙ ap (λ t. hash_number (drop 32 t ++ m)) c.digest-digest.ensures in
    let first : c.multiple_of_base-commitment.result ≡ commitment x m = c.multiple_of_base-commitment.ensures ∙ ap multiple_bytes r in
    let key : c.multiple_of_base-key.result ≡ public_key x = c.multiple_of_base-key.ensures ∙ ap multiple_bytes scalar in
    let k : joined c.hash_three-challenge.result ≡ challenge (commitment x m) (public_key x) m = c.hash_three-challenge.ensures ∙ ap₂ (λ s t. hash_number (s ++ t ++ m)) first key in
    let second : joined c.add-answer.result ≡ answer x m =
    c.add-answer.ensures ∙ ap₂ (λ s t. (s + t) % order) r (c.multiply-product.ensures ∙ ap₂ (λ s t. s * t % order) k scalar)
    ∙ add-mod-mod (nonce x m) (challenge (commitment x m) (public_key x) m * secret_scalar x) order in
    c.join.ensures ∙ ap₂ (λ s t. s ++ t) first (c.to_bytes-bytes.ensures ∙ ap encode second)
