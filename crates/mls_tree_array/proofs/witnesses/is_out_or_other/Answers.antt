use Rattle.std.proofs.Common.{◌*◌, arith, sym, ap, ◌∙◌}
use Rattle.mls_tree_model.specs.Sets.{has}
use Rattle.mls_tree_model.proofs.SearchLaws.{found_sorted}
use Rattle.mls_tree_array.proofs.Others.{inside_same, inside_other}
use Rattle.mls_tree_array.proofs.witnesses.is_out_or_other.Goals as goal

pub returns-then-x-node : goal.returns-then-x-node
returns-then-x-node c =
    sym (inside_same c.args.first c.args.end c.args.leaf c.args.node c.args.nodes.now (omega arith) (omega arith) (omega arith))

pub returns : goal.returns
returns c =
    c.is_ok.ensures.value
    ∙ found_sorted c.args.nodes.now (2 * c.from.result) c.binary_search.result c.requires.sorted c.binary_search.ensures.position
    ∙ ap (λ u. has c.args.nodes.now (2 * u)) c.from.ensures
    ∙ sym (inside_other c.args.first c.args.end c.args.leaf c.args.node c.args.nodes.now (omega arith) (omega arith) (λ e. absurd (omega arith)))
