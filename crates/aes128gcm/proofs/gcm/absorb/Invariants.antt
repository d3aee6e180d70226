use Rattle.std.proofs.Common.{◌≡◌, length}
use Rattle.aes128gcm.specs.Gcm.{absorb, pad}
use Rattle.aes128gcm.proofs.gcm.absorb.Given as goal

abbrev pub invariant-loop-i : goal.invariant-loop-i
invariant-loop-i l = record {
  state : l.y ≡ absorb l.h l.from (pad l.bytes) l.i;
  count : length l.copies ≡ 128;
}
