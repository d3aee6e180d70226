use Rattle.std.proofs.Common.{◌≡◌, [], ◌∙◌, ◌<◌, ◌-◌, ap, sym, arith, ◌++◌, append-nil}
use Rattle.mls_cli_draw.specs.Picture.{stem}
use Rattle.mls_cli_draw.proofs.Stems.{whole_one, whole_root, whole_over, whole_under}
use Rattle.mls_cli_draw.proofs.stem.push_stem.Goals as goal
use Rattle.mls_cli_draw.proofs.stem.push_stem.Goals.{then-leaves-le1-via-then-leaves-le1, then-leaves-le1-via-else-leaves-le1+then-node-leaves}

pub returns-then-leaves-le1 : goal.returns-then-leaves-le1
returns-then-leaves-le1 c = λ h u p wide.
    let none : stem u c.args.node ≡ [] = elim c.then-leaves-le1.branch [
      | then-leaves-le1-via-then-leaves-le1 w ↦ whole_one c.args.leaves c.args.node w.if-leaves-le1.true h u p wide
      | then-leaves-le1-via-else-leaves-le1+then-node-leaves w ↦ whole_root c.args.leaves c.args.node w.if-node-leaves.true h u p wide
    ] in
    sym (ap (λ cs. c.args.characters.now.items ++ cs) none ∙ append-nil c.args.characters.now.items)

pub returns-then-node-leaves-2 : goal.returns-then-node-leaves-2
returns-then-node-leaves-2 c =
    let some : 1 < c.args.leaves = omega (arith, c.if-leaves-le1.false) in
    whole_over c.args.leaves c.args.node _ _ _ some c.if-node-leaves-2.true c.push_stem_below.ensures

pub returns-else-node-leaves-2 : goal.returns-else-node-leaves-2
returns-else-node-leaves-2 c =
    let some : 1 < c.args.leaves = omega (arith, c.if-leaves-le1.false) in
    let beyond : c.args.leaves - 1 < c.args.node = omega (arith, c.if-node-leaves.false, c.if-node-leaves-2.false) in
    whole_under c.args.leaves c.args.node _ _ _ some beyond c.push_stem_below-else-node-leaves-2.ensures
