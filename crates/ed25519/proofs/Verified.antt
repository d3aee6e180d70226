-- What a check of a signature's parts says of the whole, and that a signer's signature passes it.
use Rattle.std.specs.Prelude.{ℕ, ◌≡◌, ◌+◌, ◌*◌, ◌%◌, ◌^◌, ◌<◌, ◌&&◌, Bool, true, false, List, length, take, drop, Some, None, refl}
use Rattle.std.proofs.Common.{sym, ap, ap₂, ◌∙◌, mod-lt, arith}
use Rattle.std.proofs.lemmas.Bool.{eq-eqb, lt-ltb, le-ltb}
use Rattle.std.proofs.lemmas.Slice.Eq.{bytes_eq-Decides}
use Rattle.std.specs.Str.{bytes_eq}
use Rattle.curve25519.specs.Curve25519.{Point, ◌+ₚ◌, multiple, base, order}
use Rattle.curve25519.proofs.Group.{multiple_on}
use Rattle.curve25519.proofs.Curve25519.{curve, base_on}
use Rattle.field25519.specs.Bytes.{decode_little, encode}
use Rattle.field25519.proofs.Encoding.{decode_little-encode}
use Rattle.ed25519.specs.Points.{negative, encode_point, decode_point}
use Rattle.ed25519.specs.Signatures.{secret_scalar, nonce, commitment, challenge, answer, public_key, sign, is_met, is_met_by, verify_halves, verify}
use Rattle.ed25519.proofs.RoundTrip.{decode-encode}
use Rattle.ed25519.proofs.Opposite.{returns}

-- ---- the halves

pub too_high : (key message r s : List ℕ) → (decode_little s < order → ⊥) → false ≡ verify_halves key message r s
too_high key message r s h = sym (ap (λ t. t && is_met_by (decode_point key) r (decode_little s) (challenge r key message)) (le-ltb (decode_little s) order (omega (arith, h))))

pub no_point : (key message r s : List ℕ) → decode_little s < order → decode_point key ≡ None → false ≡ verify_halves key message r s
no_point key message r s l e = sym (ap₂ (λ t p. t && is_met_by p r (decode_little s) (challenge r key message)) (lt-ltb (decode_little s) order l) e)

pub with_point : (key message r s : List ℕ) (a : Point) (n k : ℕ) (t : Bool) → decode_little s < order → decode_point key ≡ Some a → n ≡ decode_little s → k ≡ challenge r key message
    → t ≡ is_met a r n k → t ≡ verify_halves key message r s
with_point key message r s a n k t l e en ek et =
    et ∙ ap₂ (is_met a r) en ek ∙ sym (ap₂ (λ t p. t && is_met_by p r (decode_little s) (challenge r key message)) (lt-ltb (decode_little s) order l) e)

-- ---- the whole

pub of_halves : (key message signature key' r s : List ℕ) (t : Bool) → length key ≡ 32 → length signature ≡ 64 → key' ≡ key → r ≡ take 32 signature → s ≡ drop 32 signature
    → t ≡ verify_halves key' message r s → t ≡ verify key message signature
of_halves key message signature key' r s t lk ls ek er es et =
    et ∙ ap (λ x. verify_halves x message r s) ek ∙ ap₂ (verify_halves key message) er es
    ∙ sym (ap₂ (λ a b. a && b && verify_halves key message (take 32 signature) (drop 32 signature)) (eq-eqb (length key) 32 lk) (eq-eqb (length signature) 64 ls))

-- ---- a signer's signature

same_bytes : (xs ys : List ℕ) → xs ≡ ys → bytes_eq xs ys ≡ true
same_bytes xs ys e = (bytes_eq-Decides xs ys).1 e

-- S is below L, and comes back from its bytes
below : (n : ℕ) → n % order < order
below n = mod-lt n (omega arith)

back : (n : ℕ) → decode_little (encode (n % order)) ≡ n % order
back n = decode_little-encode (n % order) (wide (n % order) (below n))
  where
    wide : (m : ℕ) → m < order → m < 2 ^ 256
    wide m l = omega arith

halves : (a r : ℕ) (message : List ℕ) (k : ℕ) → k ≡ challenge (encode_point (multiple base r)) (encode_point (multiple base a)) message
    → verify_halves (encode_point (multiple base a)) message (encode_point (multiple base r)) (encode ((r + k * a) % order)) ≡ true
halves a r message k ek =
    sym (with_point (encode_point (multiple base a)) message (encode_point (multiple base r)) (encode ((r + k * a) % order)) (multiple base a) ((r + k * a) % order) k true
    (low (back (r + k * a))) (decode-encode (multiple base a) (multiple_on curve base base_on a)) (sym (back (r + k * a))) ek
    (sym (same_bytes (encode_point (multiple base ((r + k * a) % order) +ₚ multiple (negative (multiple base a)) k)) (encode_point (multiple base r)) (ap encode_point (returns r k a)))))
  where
    low : decode_little (encode ((r + k * a) % order)) ≡ (r + k * a) % order → decode_little (encode ((r + k * a) % order)) < order
    low e = omega (arith, e, below (r + k * a))

pub signed : (secret message : List ℕ) → verify (public_key secret) message (sign secret message) ≡ true
signed secret message =
    sym (of_halves (public_key secret) message (sign secret message) (public_key secret) (commitment secret message) (encode (answer secret message)) true refl refl refl refl refl
    (sym (halves (secret_scalar secret) (nonce secret message) message (challenge (commitment secret message) (public_key secret) message) refl)))
