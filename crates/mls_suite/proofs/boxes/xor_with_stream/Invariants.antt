use Rattle.std.proofs.Common.{◌≡◌}
use Rattle.mls_suite.specs.Glass.{xor_with, stream_blocks}
use Rattle.mls_suite.proofs.boxes.xor_with_stream.Given as goal

abbrev pub invariant-loop-i : goal.invariant-loop-i
invariant-loop-i l = l.text ≡ xor_with l.fn.text (stream_blocks l.key l.i)
