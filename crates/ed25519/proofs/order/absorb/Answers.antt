use Rattle.std.proofs.Common.{rules, arith, sym, ap, ◌∙◌, ◌≡◌, ◌<◌, ◌*◌, ◌+◌, ◌^◌, ◌%◌, ℕ}
use Rattle.field25519.specs.Bytes.{joined_words}
use Rattle.curve25519.specs.Curve25519.{order}
use Rattle.ed25519.proofs.Reduction.{absorbed, below, begins, ends, small}
use Rattle.ed25519.proofs.order.absorb.Goals as goal

pub loop-i-init : goal.loop-i-init
loop-i-init c =
    let la : c.args.low.a < 2 ^ 64 = search rules in
    let lb : c.args.low.b < 2 ^ 64 = search rules in
    let lc : c.args.low.c < 2 ^ 64 = search rules in
    let ld : c.args.low.d < 2 ^ 64 = search rules in
    sym (begins (joined_words c.args.high.a c.args.high.b c.args.high.c c.args.high.d) (joined_words c.args.low.a c.args.low.b c.args.low.c c.args.low.d) (joined_words c.args.high.a c.args.high.b c.args.high.c c.args.high.d) c.requires (small _ _ _ _ la lb lc ld))

pub double-left-requires-clause-low : goal.double-left-requires-clause-low
double-left-requires-clause-low c = below _ _ c.loop-i.invariant

pub loop-i-preserved : goal.loop-i-preserved
loop-i-preserved c =
    absorbed (joined_words c.args.high.a c.args.high.b c.args.high.c c.args.high.d) (joined_words c.args.low.a c.args.low.b c.args.low.c c.args.low.d) c.loop-i.i _ _ c.loop-i-test.true c.loop-i.invariant
    (c.double-left.ensures ∙ ap (λ b. (2 * (joined_words c.loop-i.left.a c.loop-i.left.b c.loop-i.left.c c.loop-i.left.d) + b) % order) c.bit_at-bit.ensures.bit)

pub returns : goal.returns
returns c =
    let e : ◌≡◌ {A = ℕ} c.loop-i.i 256 = omega (arith, c.loop-i-test.false, c.loop-i.auto.i-end) in
    c.loop-i.invariant ∙ ap (λ m. ((joined_words c.args.high.a c.args.high.b c.args.high.c c.args.high.d) * 2 ^ c.loop-i.i + m) % order) (ends (joined_words c.args.low.a c.args.low.b c.args.low.c c.args.low.d) c.loop-i.i e)
    ∙ ap (λ i. ((joined_words c.args.high.a c.args.high.b c.args.high.c c.args.high.d) * 2 ^ i + (joined_words c.args.low.a c.args.low.b c.args.low.c c.args.low.d)) % order) e
