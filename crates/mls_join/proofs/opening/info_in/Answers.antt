use Rattle.std.proofs.Common.{arith}
use Rattle.mls_public_group.proofs.Limits.{read_below}
use Rattle.mls_join.proofs.Welcomes.{bytes_are}
use Rattle.mls_types.specs.GroupInfo.{group_info}
use Rattle.mls_join.proofs.opening.info_in.Goals as goal

pub returns-in_err-refuse_long_tree-clause-bytes : goal.returns-in_err-refuse_long_tree-clause-bytes
returns-in_err-refuse_long_tree-clause-bytes g c = bytes_are c.args.plain.now (λ i. omega (arith, c.type_inv.plain i))

pub returns-in-Ok-clause-bytes : goal.returns-in-Ok-clause-bytes
returns-in-Ok-clause-bytes g c = bytes_are c.args.plain.now (λ i. omega (arith, c.type_inv.plain i))

pub returns-in-Ok-clause-below : goal.returns-in-Ok-clause-below
returns-in-Ok-clause-below g c = read_below group_info c.args.plain.now c.in-Ok.info c.in-Ok.ensures.found c.in-Ok.ensures.exact

pub returns-in-Ok-clause-few : goal.returns-in-Ok-clause-few
returns-in-Ok-clause-few g c = c.in_ok-refuse_long_tree.ensures.few c.in-Ok.info c.in-Ok.ensures.exact

pub returns-in-Err-Wire-OutOfMemory-clause-bytes : goal.returns-in-Err-Wire-OutOfMemory-clause-bytes
returns-in-Err-Wire-OutOfMemory-clause-bytes g c = bytes_are c.args.plain.now (λ i. omega (arith, c.type_inv.plain i))

pub returns-in-Err-clause-bytes : goal.returns-in-Err-clause-bytes
returns-in-Err-clause-bytes g c = bytes_are c.args.plain.now (λ i. omega (arith, c.type_inv.plain i))
