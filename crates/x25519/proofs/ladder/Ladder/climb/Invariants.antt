use Rattle.std.proofs.Common.{◌≡◌, ◌^◌, ◌-◌, ◌/◌, ◌<◌}
use Rattle.curve25519.specs.Field25519.{field}
use Rattle.curve25519.specs.Ladder.{swap, ladder}
use Rattle.curve25519.specs.X25519.{a24}
use Rattle.field25519.specs.Bytes.{joined_words}
use Rattle.x25519.proofs.ladder.Ladder.climb.Given as goal

abbrev pub invariant-loop-i : goal.invariant-loop-i
invariant-loop-i l =
    (l.last < 2)
    × (swap field l.last l.now ≡ ladder field a24 l.u l.i (joined_words l.scalar.a l.scalar.b l.scalar.c l.scalar.d / 2 ^ (255 - l.i)))
