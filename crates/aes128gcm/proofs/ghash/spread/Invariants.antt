use Rattle.std.proofs.Common.{◌≡◌, ℕ, ◌+◌, ◌-◌, ◌*◌, ◌/◌, ◌%◌, ◌^◌, ◌<◌, length, get_or}
use Rattle.aes128gcm.specs.Nets.{up}
use Rattle.aes128gcm.proofs.ghash.spread.Given as goal

abbrev pub invariant-loop-i : goal.invariant-loop-i
invariant-loop-i l = record {
  words : (k : ℕ) → k < l.i → get_or l.copies k 0 ≡ l.x / 2 ^ (127 - k) % 2 * 0xFFFFFFFFFFFFFFFF;
  count : length l.copies ≡ 128;
  rest : l.top ≡ up l.i (l.x / 2 ^ 64);
}

abbrev pub invariant-loop-j : goal.invariant-loop-j
invariant-loop-j l = record {
  words : (k : ℕ) → k < 64 + l.j → get_or l.copies k 0 ≡ l.x / 2 ^ (127 - k) % 2 * 0xFFFFFFFFFFFFFFFF;
  count : length l.copies ≡ 128;
  rest : l.bottom ≡ up l.j (l.x % 2 ^ 64);
}
