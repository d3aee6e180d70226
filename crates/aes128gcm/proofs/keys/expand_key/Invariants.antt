use Rattle.std.proofs.Common.{◌≡◌, ℕ, ◌<◌, List, length, get_or}
use Rattle.aes128gcm.specs.Aes.{round_key, round_constant}
use Rattle.aes128gcm.specs.Lanes.{Holds}
use Rattle.aes128gcm.proofs.keys.expand_key.Given as goal

abbrev pub invariant-loop-i : goal.invariant-loop-i
invariant-loop-i l = record {
  keys : (b j : ℕ) (d : List ℕ) → b < 4 → j < l.i → Holds (get_or l.keys j d) b (round_key l.fn.key j);
  count : length l.keys ≡ 11;
  round : l.k ≡ round_key l.fn.key l.i;
  constant : l.constant ≡ round_constant l.i;
}
