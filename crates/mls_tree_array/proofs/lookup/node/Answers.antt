use Rattle.std.proofs.Common.{None, sym, ◌∙◌, arith}
use Rattle.std.proofs.lemmas.List.{get_or_past}
use Rattle.mls_tree_array.proofs.Numbered.{node_at-standing}
use Rattle.mls_tree_array.proofs.lookup.node.Goals as goal

pub returns-then-place-len : goal.returns-then-place-len
returns-then-place-len c =
    sym (node_at-standing c.args.height c.args.x c.args.cells.now.nodes c.requires
    ∙ get_or_past c.args.cells.now.nodes c.args.x None (omega arith))

pub returns : goal.returns
returns c = c.node.ensures ∙ c.slot.ensures ∙ sym (node_at-standing c.args.height c.args.x c.args.cells.now.nodes c.requires)
