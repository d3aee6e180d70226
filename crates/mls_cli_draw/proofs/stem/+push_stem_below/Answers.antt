use Rattle.std.proofs.Common.{◌≡◌, ◌∙◌, ◌<◌, ◌-◌, ap, arith, ◌++◌}
use Rattle.mls_cli_draw.specs.Picture.{corner, stem_below}
use Rattle.mls_cli_draw.proofs.Stems.{pushed_if, pushed_one, pushed_root, pushed_over, pushed_under}
use Rattle.mls_cli_draw.proofs.stem.+push_stem_below.Goals as goal
use Rattle.mls_cli_draw.proofs.stem.+push_stem_below.Goals.{then-leaves-le1-via-then-leaves-le1, then-leaves-le1-via-else-leaves-le1+then-node-leaves}

pub returns-then-leaves-le1 : goal.returns-then-leaves-le1
returns-then-leaves-le1 t c = λ h u p wide.
    let at_root : corner c.args.side ≡ stem_below c.args.side u c.args.node = elim c.then-leaves-le1.branch [
      | then-leaves-le1-via-then-leaves-le1 w ↦ pushed_one c.args.side c.args.leaves c.args.node w.if-leaves-le1.true h u p wide
      | then-leaves-le1-via-else-leaves-le1+then-node-leaves w ↦ pushed_root c.args.side c.args.leaves c.args.node w.if-node-leaves.true h u p wide
    ] in
    pushed_if c.extend_from_slice.result _ _ _ _ c.extend_from_slice.ensures.items (c.as_slice.ensures ∙ c.corner.ensures ∙ at_root)

pub returns-in_ok-extend_from_slice : goal.returns-in_ok-extend_from_slice
returns-in_ok-extend_from_slice t c =
    let some : 1 < c.args.leaves = omega (arith, c.if-leaves-le1.false) in
    let text = c.as_slice-then-node-leaves-2.ensures ∙ c.beside.ensures in
    pushed_over c.args.side c.args.leaves c.args.node _ _ _ _ some c.if-node-leaves-2.true (c.in_ok-extend_from_slice.ensures.items ∙ ap (λ cs. c.args.characters.now.items ++ cs) text) c.push_stem_below.ensures

pub returns-in_ok-extend_from_slice-2 : goal.returns-in_ok-extend_from_slice-2
returns-in_ok-extend_from_slice-2 t c =
    let some : 1 < c.args.leaves = omega (arith, c.if-leaves-le1.false) in
    let beyond : c.args.leaves - 1 < c.args.node = omega (arith, c.if-node-leaves.false, c.if-node-leaves-2.false) in
    let text = c.as_slice-else-node-leaves-2.ensures ∙ c.beside-else-node-leaves-2.ensures in
    pushed_under c.args.side c.args.leaves c.args.node _ _ _ _ some beyond (c.in_ok-extend_from_slice-2.ensures.items ∙ ap (λ cs. c.args.characters.now.items ++ cs) text) c.push_stem_below-else-node-leaves-2.ensures
