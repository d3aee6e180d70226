use Rattle.std.proofs.Common.{◌≡◌, ◌==◌, true, false, rules}
use Rattle.mls_tree.specs.Faults.{number_of}
use Rattle.mls_join.proofs.FewNodes.{long_tree, no_view, other_suite}
use Rattle.mls_join.proofs.few_nodes.refuse_long_tree.Goals as goal

pub returns-in_default-clause-refused : goal.returns-in_default-clause-refused
returns-in_default-clause-refused g c = λ _. no_view g.S.Suite.crypto c.args.plain.now c.read.result c.in_default.not-Ok c.read.ensures

pub returns-then-branch-NUMBER-clause-refused : goal.returns-then-branch-NUMBER-clause-refused
returns-then-branch-NUMBER-clause-refused g c =
    let other : (c.in_ok-to_owned-in-Err.field-0.cipher_suite == g.S.Suite.crypto.number) ≡ false = search rules in
    λ _. other_suite c.args.plain.now c.in-Ok.info c.in-Ok.ensures g.S.Suite.crypto c.in_ok-to_owned-in-Err.field-0 c.in_ok-to_owned-in-Err.ensures other

pub returns-else-branch-NUMBER-clause-refused : goal.returns-else-branch-NUMBER-clause-refused
returns-else-branch-NUMBER-clause-refused g c =
    let own : (c.in_ok-to_owned-in-Err.field-0.cipher_suite == g.S.Suite.crypto.number) ≡ true = search rules in
    λ _.
    long_tree c.args.plain.now c.in-Ok.info c.in-Ok.ensures g.S.Suite.crypto c.in_ok-to_owned-in-Err.field-0 c.in_ok-to_owned-in-Err.ensures c.in-Some.nodes (number_of c.in-Err.error) own c.in-Some.is c.in-Err.ensures.refused.0
