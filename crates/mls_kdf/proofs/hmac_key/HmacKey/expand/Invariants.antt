use Rattle.std.proofs.Common.{◌≡◌, ◌*◌, ◌<◌, take, length}
use Rattle.mls_kdf.specs.Kdf.{joined_pieces, hkdf_block, hkdf_blocks}
use Rattle.mls_kdf.proofs.hmac_key.HmacKey.expand.Given as goal

abbrev pub invariant-loop-i : goal.invariant-loop-i
invariant-loop-i l = record {
  block : 0 < l.i → l.block ≡ hkdf_block l.self (joined_pieces l.info) l.i;
  written : take (32 * l.i) l.out ≡ take (length l.out) (hkdf_blocks l.self (joined_pieces l.info) l.i);
}
