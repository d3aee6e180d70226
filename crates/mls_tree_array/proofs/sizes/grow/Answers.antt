use Rattle.std.proofs.Common.{◌≡◌, ◌+◌, ◌++◌, ◌∙◌, None, suc, replicate, ap, arith}
use Rattle.std.proofs.lemmas.Result.{on_ok_weaker}
use Rattle.mls_treemath.specs.Paths.{nodes_in}
use Rattle.mls_treemath.proofs.Sizes.{nodes_in-pow}
use Rattle.mls_treemath.proofs.Moves.{limit_fits}
use Rattle.mls_tree_cells.specs.Rows.{AddsBlanks}
use Rattle.mls_tree_array.proofs.Widths.{grown}
use Rattle.mls_tree_array.proofs.sizes.grow.Goals as goal

pub overflow_add-count : goal.overflow_add-count
overflow_add-count c =
    let size = c.requires.stands.size in
    let low = limit_fits c.args.height (omega arith) in
    let all = nodes_in-pow c.args.height in
    omega arith

pub returns-clause-ok : goal.returns-clause-ok
returns-clause-ok c =
    on_ok_weaker _ (λ (made : AddsBlanks (c.len-count.result + 1) c.args.cells.now c.grow.new.self). grown c.args.height (c.len-count.result + 1) c.args.cells.now.nodes _ c.requires.stands (omega arith) made.nodes) c.grow.ensures.ok

pub returns-clause-cold : goal.returns-clause-cold
returns-clause-cold c =
    let size = c.requires.stands.size in
    let count : c.len-count.result + 1 ≡ suc (nodes_in c.args.height) = omega arith in
    on_ok_weaker _ (λ (made : AddsBlanks (c.len-count.result + 1) c.args.cells.now c.grow.new.self). made.hashes ∙ ap (λ k. c.args.cells.now.hashes ++ replicate k None) count) c.grow.ensures.ok
