use Rattle.std.proofs.Common.{◌≡◌, map, take}
use Rattle.mls_cli_vectors.specs.Vectors.{vector_view}
use Rattle.mls_cli_vectors.specs.VectorsPassing.{passes}
use Rattle.mls_cli_vectors.proofs.verdict.verdicts.Given as goal

abbrev pub invariant-loop-vector : goal.invariant-loop-vector
invariant-loop-vector l = l.verdicts.items ≡ map passes (map vector_view (take l.vector-index l.vectors))
