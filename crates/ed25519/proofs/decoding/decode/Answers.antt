use Rattle.std.proofs.Common.{rules, ◌<◌, ◌^◌}
use Rattle.ed25519.specs.Coordinates.{Represents}
use Rattle.ed25519.proofs.Branches.{from_height}
use Rattle.ed25519.proofs.decoding.decode.Goals as goal

pub returns-then-is_least : goal.returns-then-is_least
returns-then-is_least c =
    let la : c.from_bytes-w.result.a < 2 ^ 64 = search rules in
    let lb : c.from_bytes-w.result.b < 2 ^ 64 = search rules in
    let lc : c.from_bytes-w.result.c < 2 ^ 64 = search rules in
    from_height Represents c.with_y.result c.args.bytes.now _ _ _ c.from_bytes-w.result.d _ la lb lc c.from_bytes-w.ensures (c.is_least.ensures.0 c.if-is_least.true) c.from_words.ensures c.with_y.ensures
