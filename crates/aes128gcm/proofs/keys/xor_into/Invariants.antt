use Rattle.std.proofs.Common.{◌≡◌, take}
use Rattle.aes128gcm.specs.Aes.{xor_with}
use Rattle.aes128gcm.proofs.keys.xor_into.Given as goal

abbrev pub invariant-loop-i : goal.invariant-loop-i
invariant-loop-i l = l.bytes ≡ xor_with l.fn.bytes (take l.i l.with)
