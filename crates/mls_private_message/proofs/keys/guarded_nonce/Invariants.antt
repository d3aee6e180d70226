use Rattle.std.proofs.Common.{◌≡◌, take}
use Rattle.mls_private_message.specs.Keys.{xor_front}
use Rattle.mls_private_message.proofs.keys.guarded_nonce.Given as goal

abbrev pub invariant-loop-i : goal.invariant-loop-i
invariant-loop-i l = l.guarded ≡ xor_front l.nonce (take l.i l.guard)
