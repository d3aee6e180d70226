use Rattle.std.proofs.Common.{◌≡◌, ◌+◌, ◌-◌, ◌*◌, ◌/◌, ◌%◌, ◌^◌}
use Rattle.field25519.specs.Bytes.{joined_words}
use Rattle.curve25519.specs.Curve25519.{order}
use Rattle.ed25519.proofs.order.absorb.Given as goal

abbrev pub invariant-loop-i : goal.invariant-loop-i
invariant-loop-i l = joined_words l.left.a l.left.b l.left.c l.left.d ≡ (joined_words l.fn.high.a l.fn.high.b l.fn.high.c l.fn.high.d * 2 ^ l.i + joined_words l.low.a l.low.b l.low.c l.low.d / 2 ^ (256 - l.i)) % order
