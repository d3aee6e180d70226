use Rattle.std.proofs.Common.{Bool, true, ◌≡◌, sym, subst, ◌<◌}
use Rattle.curve25519.specs.Curve25519.{order}
use Rattle.field25519.specs.Bytes.{decode_little, joined}
use Rattle.ed25519.proofs.Verified.{too_high, no_point, with_point}
use Rattle.ed25519.proofs.signing.verify_halves.Goals as goal

pub returns-in-Some : goal.returns-in-Some
returns-in-Some c =
    let low : decode_little c.args.answer.now < order = subst (λ t. t < order) c.from_bytes-number.ensures (c.is_below.ensures.0 c.if-is_below.true) in
    with_point c.args.key.now c.args.message.now c.args.commitment.now c.args.answer.now c.in-Some.ensures.0 (joined c.from_bytes-number.result) (joined c.hash_three-challenge.result) _
    low c.in-Some.ensures.1 c.from_bytes-number.ensures c.hash_three-challenge.ensures (c.is_met.ensures c.in-Some.ensures.0 c.in-Some.ensures.2 c.in-Some.ensures.3)

pub returns-in-None : goal.returns-in-None
returns-in-None c =
    let low : decode_little c.args.answer.now < order = subst (λ t. t < order) c.from_bytes-number.ensures (c.is_below.ensures.0 c.if-is_below.true) in
    no_point c.args.key.now c.args.message.now c.args.commitment.now c.args.answer.now low c.in-None.ensures

pub returns-else-is_below : goal.returns-else-is_below
returns-else-is_below c =
    too_high c.args.key.now c.args.message.now c.args.commitment.now c.args.answer.now
    (λ l. let t : ◌≡◌ {A = Bool} c.is_below.result true = c.is_below.ensures.1 (subst (λ t. t < order) (sym c.from_bytes-number.ensures) l) in cc (t, c.if-is_below.false))
