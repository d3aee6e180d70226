use Rattle.std.proofs.Common.{arith}
use Rattle.mls_tree_index.proofs.entry.read_front.Goals as goal

pub returns-clause-bytes : goal.returns-clause-bytes
returns-clause-bytes c = record {
  first = omega (arith, c.type_inv.key 0);
  second = omega (arith, c.type_inv.key 1);
  third = omega (arith, c.type_inv.key 2);
  fourth = omega (arith, c.type_inv.key 3);
}
