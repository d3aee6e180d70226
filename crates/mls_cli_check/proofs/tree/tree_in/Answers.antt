use Rattle.std.proofs.Common.{arith}
use Rattle.std.proofs.lemmas.Result.{err_from_is_err_and}
use Rattle.mls_cli_check.specs.Check.{tree_in}
use Rattle.mls_cli_check.proofs.SentTrees.{no_memory, no_nodes, of_nodes, read_twice}
use Rattle.mls_cli_check.proofs.ShortLeaves.{input_short}
use Rattle.mls_cli_check.proofs.tree.tree_in.Goals as goal

pub returns-in_err-nodes-clause-tree : goal.returns-in_err-nodes-clause-tree
returns-in_err-nodes-clause-tree c =
    let p = err_from_is_err_and c.from_residual-in_err-nodes.result c.from_residual-in_err-nodes.ensures.1 in
    rw (p.1, p.2) (no_nodes c.args.bytes.now c.in_err-nodes.field-0.0 c.in_err-nodes.ensures.exact)

pub returns-in_err-tree-clause-tree : goal.returns-in_err-tree-clause-tree
returns-in_err-tree-clause-tree c =
    let p = err_from_is_err_and c.from_residual-in_err-tree.result c.from_residual-in_err-tree.ensures.1 in
    rw (p.1, p.2) (λ ne. of_nodes c.args.bytes.now c.in_ok-nodes.nodes c.into_vec.result.items _ c.in_ok-nodes.ensures.exact c.into_vec.ensures (c.in_err-tree.ensures.answer ne))

pub returns-clause-tree : goal.returns-clause-tree
returns-clause-tree c =
    of_nodes c.args.bytes.now c.in_ok-nodes.nodes c.into_vec.result.items _ c.in_ok-nodes.ensures.exact c.into_vec.ensures c.in_ok-tree.ensures.answer

pub returns-clause-short : goal.returns-clause-short
returns-clause-short c =
    input_short c.args.bytes.now c.in_ok-nodes.nodes c.into_vec.result.items _ c.in_ok-nodes.ensures.found c.in_ok-nodes.ensures.exact c.into_vec.ensures c.in_ok-tree.ensures.answer

pub returns-in_err-nodes-clause-outright : goal.returns-in_err-nodes-clause-outright
returns-in_err-nodes-clause-outright c =
    let p = err_from_is_err_and c.from_residual-in_err-nodes.result c.from_residual-in_err-nodes.ensures.1 in
    λ n h. rw (p.1, p.2) (no_memory c.in_err-nodes.field-0.0 _ n c.in_err-nodes.ensures.outright h)

pub returns-in_err-tree-clause-outright : goal.returns-in_err-tree-clause-outright
returns-in_err-tree-clause-outright c =
    λ n h. absurd (read_twice _ c.in_ok-nodes.nodes n c.in_ok-nodes.ensures.exact h)

pub returns-clause-outright : goal.returns-clause-outright
returns-clause-outright c = λ n h. tt

-- ---- more nodes than a tree has

pub returns-in_err-refuse_long-clause-tree : goal.returns-in_err-refuse_long-clause-tree
unfolding tree_in
returns-in_err-refuse_long-clause-tree c =
    let p = err_from_is_err_and c.from_residual.result c.from_residual.ensures.1 in
    rw (p.1, p.2) (λ ne. c.in_err-refuse_long.ensures.refused.0)

pub returns-in_err-refuse_long-clause-outright : goal.returns-in_err-refuse_long-clause-outright
returns-in_err-refuse_long-clause-outright c =
    let p = err_from_is_err_and c.from_residual.result c.from_residual.ensures.1 in
    λ n h. rw (p.1, p.2) c.in_err-refuse_long.ensures.refused.1

pub returns-in_err-refuse_long-clause-long : goal.returns-in_err-refuse_long-clause-long
returns-in_err-refuse_long-clause-long c =
    let p = err_from_is_err_and c.from_residual.result c.from_residual.ensures.1 in
    λ cells read many. rw (p.1, p.2) c.in_err-refuse_long.ensures.refused.1

pub returns-in_err-nodes-clause-long : goal.returns-in_err-nodes-clause-long
returns-in_err-nodes-clause-long c =
    λ cells read many. let few = c.in_ok-refuse_long.ensures.few cells read in absurd (omega (arith, few, many))

pub returns-in_err-tree-clause-long : goal.returns-in_err-tree-clause-long
returns-in_err-tree-clause-long c =
    λ cells read many. let few = c.in_ok-refuse_long.ensures.few cells read in absurd (omega (arith, few, many))

pub returns-clause-long : goal.returns-clause-long
returns-clause-long c = λ cells read many. tt
