use Rattle.std.proofs.Common.{◌∙◌, refl, ◌≡◌, ◌<◌, ◌*◌, ◌+◌, ◌%◌, ◌^◌, ℕ, arith, rules}
use Rattle.curve25519.specs.Field25519.{prime}
use Rattle.curve25519.proofs.Field25519.{least_below}
use Rattle.field25519.specs.Bytes.{joined_words}
use Rattle.ed25519.proofs.Represented.{point_is, first_is, second_is}
use Rattle.ed25519.proofs.point.ExtendedPoint.encode.Goals as goal

fits : (a b c d l s : ℕ) → joined_words a b c d ≡ l → l < prime → d + s % 2 * 9223372036854775808 < 2 ^ 64
fits a b c d l s e low = omega (arith, e, low)

pub overflow_add-height : goal.overflow_add-height
overflow_add-height c =
    let h : c.words-height.result.d + c.words-sign.result.a % 2 * 9223372036854775808 < 2 ^ 64 =
    fits c.words-height.result.a c.words-height.result.b c.words-height.result.c c.words-height.result.d _ c.words-sign.result.a c.words-height.ensures (least_below _) in
    search rules

pub returns : goal.returns
returns c = λ q rep.
    c.to_bytes.ensures
    ∙ point_is q _ _ c.words-sign.result.a c.words-sign.result.b c.words-sign.result.c c.words-sign.result.d
    c.words-height.result.a c.words-height.result.b c.words-height.result.c c.words-height.result.d (c.words-sign.result.a % 2)
    (first_is q _ _ _ _ _ _ rep c.invert-inverse.ensures c.multiply-x.ensures)
    (second_is q _ _ _ _ _ _ rep c.invert-inverse.ensures c.multiply-y.ensures)
    c.words-sign.ensures c.words-height.ensures refl
