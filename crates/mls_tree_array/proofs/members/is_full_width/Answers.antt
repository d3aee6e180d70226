use Rattle.std.proofs.Common.{arith, ◌∙◌, sym, ap}
use Rattle.std.proofs.lemmas.Nat.{one_shl}
use Rattle.mls_tree_array.proofs.Blanks.{side_nodes, full_leaf, full_sides, half_blank}
use Rattle.mls_tree_model.specs.Term.{is_full_width}
use Rattle.mls_tree_model.specs.Arrays.{term_of}
use Rattle.mls_tree_array.proofs.members.is_full_width.Goals as goal

pub returns-then-height-eq0 : goal.returns-then-height-eq0
returns-then-height-eq0 c =
    c.begins_with_leaf.ensures ∙ full_leaf c.args.nodes.now ∙ ap (λ h. is_full_width (term_of h c.args.nodes.now)) (sym c.if-height-eq0.true)

pub returns-then-nodes-middle : goal.returns-then-nodes-middle
returns-then-nodes-middle c =
    let power = one_shl c.args.height 64 (omega arith) in
    let side = side_nodes c.args.height _ (omega arith) power in
    sym (half_blank c.args.height _ c.args.nodes.now (omega arith) side c.if-nodes-middle.true)

pub returns : goal.returns
returns c =
    let power = one_shl c.args.height 64 (omega arith) in
    let side = side_nodes c.args.height _ (omega arith) power in
    c.has_leaf.ensures ∙ sym (full_sides c.args.height _ c.args.nodes.now (omega arith) side)
