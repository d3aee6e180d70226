use Rattle.std.proofs.Common.{arith, ap, ◌∙◌, ◌≡◌, ◌*◌, ◌%◌, ℕ}
use Rattle.field25519.specs.Bytes.{joined_words}
use Rattle.curve25519.specs.Curve25519.{order}
use Rattle.ed25519.proofs.Reduction.{multiplied, chosen, ends}
use Rattle.ed25519.proofs.order.multiply.Goals as goal

pub loop-i-preserved : goal.loop-i-preserved
loop-i-preserved c =
    multiplied (joined_words c.args.x.a c.args.x.b c.args.x.c c.args.x.d) (joined_words c.args.y.a c.args.y.b c.args.y.c c.args.y.d) c.loop-i.i _ _ _ _ c.loop-i-test.true c.loop-i.invariant c.double-twice.ensures
    (chosen (joined_words c.args.x.a c.args.x.b c.args.x.c c.args.x.d) c.bit_at-bit.result _ c.bit_at-bit.ensures.low c.select-more.ensures.first c.select-more.ensures.second
    ∙ ap (λ b. (joined_words c.args.x.a c.args.x.b c.args.x.c c.args.x.d) * b) c.bit_at-bit.ensures.bit)
    c.add-all.ensures

pub returns : goal.returns
returns c =
    let e : ◌≡◌ {A = ℕ} c.loop-i.i 256 = omega (arith, c.loop-i-test.false, c.loop-i.auto.i-end) in
    c.loop-i.invariant ∙ ap (λ m. (joined_words c.args.x.a c.args.x.b c.args.x.c c.args.x.d) * m % order) (ends (joined_words c.args.y.a c.args.y.b c.args.y.c c.args.y.d) c.loop-i.i e)
