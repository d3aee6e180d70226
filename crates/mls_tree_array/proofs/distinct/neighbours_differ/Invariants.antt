use Rattle.std.proofs.Common.{◌≡◌, ℕ, suc, ◌<◌, List, false, get_or, nat_eq}
use Rattle.std.specs.Borrow.{Bor}
use Rattle.std.specs.Cmp.Lexicographic.{pointwise}
use Rattle.mls_tree_array.proofs.distinct.neighbours_differ.Given as goal

abbrev pub invariant-loop-k : goal.invariant-loop-k
invariant-loop-k l = (j : ℕ) (d : Bor (List ℕ)) → suc j < l.k → pointwise nat_eq (get_or l.strings j d).now (get_or l.strings (suc j) d).now ≡ false
