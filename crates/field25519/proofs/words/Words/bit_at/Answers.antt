use Rattle.std.proofs.Common.{rules, ◌<◌, ◌^◌}
use Rattle.field25519.proofs.Bits.{bit_a, bit_b, bit_c, bit_d}
use Rattle.field25519.proofs.words.Words.bit_at.Goals as goal

pub returns-then-place-lt64-clause-bit : goal.returns-then-place-lt64-clause-bit
returns-then-place-lt64-clause-bit c =
    bit_a c.args.self.a c.args.self.b c.args.self.c c.args.self.d c.args.place c.if-place-lt64.true

pub returns-then-place-lt128-clause-bit : goal.returns-then-place-lt128-clause-bit
returns-then-place-lt128-clause-bit c =
    let la : c.args.self.a < 2 ^ 64 = search rules in
    bit_b c.args.self.a c.args.self.b c.args.self.c c.args.self.d c.args.place la c.if-place-lt64.false c.if-place-lt128.true

pub returns-then-place-lt192-clause-bit : goal.returns-then-place-lt192-clause-bit
returns-then-place-lt192-clause-bit c =
    let la : c.args.self.a < 2 ^ 64 = search rules in
    let lb : c.args.self.b < 2 ^ 64 = search rules in
    bit_c c.args.self.a c.args.self.b c.args.self.c c.args.self.d c.args.place la lb c.if-place-lt128.false c.if-place-lt192.true

pub returns-else-place-lt192-clause-bit : goal.returns-else-place-lt192-clause-bit
returns-else-place-lt192-clause-bit c =
    let la : c.args.self.a < 2 ^ 64 = search rules in
    let lb : c.args.self.b < 2 ^ 64 = search rules in
    let lc : c.args.self.c < 2 ^ 64 = search rules in
    bit_d c.args.self.a c.args.self.b c.args.self.c c.args.self.d c.args.place la lb lc c.if-place-lt192.false c.requires
