use Rattle.std.proofs.Common.{◌≡◌, ◌-◌, ◌*◌, ◌/◌, ◌%◌, ◌^◌}
use Rattle.field25519.specs.Bytes.{joined_words}
use Rattle.curve25519.specs.Curve25519.{order}
use Rattle.ed25519.proofs.order.multiply.Given as goal

abbrev pub invariant-loop-i : goal.invariant-loop-i
invariant-loop-i l = joined_words l.all.a l.all.b l.all.c l.all.d ≡ joined_words l.x.a l.x.b l.x.c l.x.d * (joined_words l.y.a l.y.b l.y.c l.y.d / 2 ^ (256 - l.i)) % order
