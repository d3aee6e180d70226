use Rattle.std.proofs.Common.{arith}
use Rattle.std.specs.Prelude.{bit_xor}
use Rattle.mls_kdf.proofs.Lists.{mapped_more}
use Rattle.mls_kdf.proofs.keyed_hash.xor_with_byte.Goals as goal

pub loop-k-preserved : goal.loop-k-preserved
loop-k-preserved c = mapped_more (λ k. bit_xor k c.args.byte) c.args.block c.loop-k.k-items c.loop-k.k-index (omega arith) c.loop-k.invariant
