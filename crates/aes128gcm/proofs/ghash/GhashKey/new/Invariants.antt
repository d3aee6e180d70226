use Rattle.std.proofs.Common.{◌≡◌, ℕ, ◌+◌, ◌*◌, ◌^◌, ◌<◌, length, get_or}
use Rattle.aes128gcm.specs.Gcm.{multiple}
use Rattle.aes128gcm.proofs.ghash.GhashKey.new.Given as goal

abbrev pub invariant-loop-i : goal.invariant-loop-i
invariant-loop-i l = record {
  table : (k : ℕ) → k < l.i → get_or l.high k 0 * 2 ^ 64 + get_or l.low k 0 ≡ multiple l.block k;
  next : l.v ≡ multiple l.block l.i;
  high : length l.high ≡ 128;
  low : length l.low ≡ 128;
}
