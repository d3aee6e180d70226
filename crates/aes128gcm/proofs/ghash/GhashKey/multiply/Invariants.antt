use Rattle.std.proofs.Common.{◌≡◌, ◌+◌, ◌*◌, ◌^◌}
use Rattle.aes128gcm.specs.Gcm.{multiples_sum}
use Rattle.aes128gcm.proofs.ghash.GhashKey.multiply.Given as goal

abbrev pub invariant-loop-i : goal.invariant-loop-i
invariant-loop-i l = l.high * 2 ^ 64 + l.low ≡ multiples_sum l.x l.self l.i
