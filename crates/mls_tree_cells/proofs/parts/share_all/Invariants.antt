use Rattle.std.proofs.Common.{◌≡◌, vec_len}
use Rattle.mls_tree_cells.specs.Parts.{rows_of}
use Rattle.mls_tree_cells.proofs.parts.share_all.Given as goal

abbrev pub invariant-loop-k : goal.invariant-loop-k
invariant-loop-k l = record {
  rows : rows_of l.chunks.items ≡ rows_of l.fn.chunks.items;
  len : vec_len l.chunks ≡ l.k-end;
}
