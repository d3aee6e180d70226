use Rattle.std.proofs.Common.{ℕ, ◌-◌, ◌<◌, List}
use Rattle.aes128gcm.specs.Aes.{rounds}
use Rattle.aes128gcm.specs.Lanes.{Holds}
use Rattle.aes128gcm.specs.Keys.{AreSlicedKeys}
use Rattle.aes128gcm.proofs.blocks.encrypt_slices.Given as goal

abbrev pub invariant-loop-i : goal.invariant-loop-i
invariant-loop-i l = (b : ℕ) (key s : List ℕ) → b < 4 → AreSlicedKeys key l.keys → Holds l.fn.block b s → Holds l.q b (rounds key s (l.i - 1))
