use Rattle.std.proofs.Common.{◌*◌, None, sym, ◌∙◌, ap, arith}
use Rattle.std.proofs.lemmas.List.{get_or_past}
use Rattle.mls_tree_model.specs.Arrays.{leaf_in}
use Rattle.mls_tree_array.proofs.Numbered.{leaf_of-term_of}
use Rattle.mls_tree_array.proofs.lookup.leaf.Goals as goal

pub returns-then-place-len : goal.returns-then-place-len
returns-then-place-len c =
    sym (leaf_of-term_of c.args.height c.args.i c.args.cells.now.nodes c.requires
    ∙ ap leaf_in (get_or_past c.args.cells.now.nodes (2 * c.args.i) None (omega arith)))

pub returns : goal.returns
returns c =
    c.leaf_in.ensures ∙ ap leaf_in c.slot.ensures ∙ sym (leaf_of-term_of c.args.height c.args.i c.args.cells.now.nodes c.requires)
