use Rattle.std.proofs.Common.{◌≡◌, take, drop, map, ◌++◌}
use Rattle.std.specs.Prelude.{bit_xor}
use Rattle.mls_kdf.proofs.keyed_hash.xor_with_byte.Given as goal

abbrev pub invariant-loop-k : goal.invariant-loop-k
invariant-loop-k l = l.k-items ≡ map (λ k. bit_xor k l.byte) (take l.k-index l.fn.block) ++ drop l.k-index l.fn.block
