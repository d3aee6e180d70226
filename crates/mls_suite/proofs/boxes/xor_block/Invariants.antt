use Rattle.std.proofs.Common.{◌≡◌, take}
use Rattle.mls_suite.specs.Glass.{xor_with}
use Rattle.mls_suite.proofs.boxes.xor_block.Given as goal

abbrev pub invariant-loop-i : goal.invariant-loop-i
invariant-loop-i l = l.bytes ≡ xor_with l.fn.bytes (take l.i l.block)
