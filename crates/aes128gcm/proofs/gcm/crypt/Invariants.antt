use Rattle.std.proofs.Common.{◌≡◌, ◌*◌}
use Rattle.aes128gcm.specs.Aes.{xor_with}
use Rattle.aes128gcm.specs.Gcm.{key_stream, inc32, first_block}
use Rattle.aes128gcm.proofs.gcm.crypt.Given as goal

abbrev pub invariant-loop-i : goal.invariant-loop-i
invariant-loop-i l = l.text ≡ xor_with l.fn.text (key_stream l.key (inc32 (first_block l.nonce)) (4 * l.i))
