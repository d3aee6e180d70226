use Rattle.std.proofs.Common.{rules, ◌<◌, ◌^◌}
use Rattle.field25519.proofs.Encoding.{encoded}
use Rattle.field25519.proofs.words.Words.to_bytes.Goals as goal

pub returns : goal.returns
returns c =
    let la : c.args.self.a < 2 ^ 64 = search rules in
    let lb : c.args.self.b < 2 ^ 64 = search rules in
    let lc : c.args.self.c < 2 ^ 64 = search rules in
    rw (c.to_le_bytes.ensures, c.to_le_bytes-2.ensures, c.to_le_bytes-3.ensures, c.to_le_bytes-4.ensures) (encoded c.args.self.a c.args.self.b c.args.self.c c.args.self.d la lb lc)
