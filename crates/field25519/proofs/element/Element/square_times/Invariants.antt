use Rattle.std.proofs.Common.{◌≡◌, ◌^◌}
use Rattle.curve25519.specs.Field25519.{raise}
use Rattle.field25519.proofs.element.Element.square_times.Given as goal

abbrev pub invariant-loop-i : goal.invariant-loop-i
invariant-loop-i l = l.power ≡ raise l.self (2 ^ l.i)
